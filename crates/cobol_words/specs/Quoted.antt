-- Literals: what follows the opening mark.
use Rattle.std.specs.Prelude.{ℕ, ◌+◌, List, [], ◌∷◌, Bool, true, false, ◌==◌, if◌then◌else◌}
use Rattle.cob_base.specs.declared.line.Line.{Line}
use Rattle.cobol_words.specs.Joined.{Piece}

-- how a literal ends: by its own mark, at a line's end, where the text so far ends, or where a continuation line doesn't
-- go on with it
pub data Ending : Type 0 where
  closed : Ending
  open_at_line_end : Ending
  open_so_far : Ending
  broken : Line → Ending

-- what a literal stands for, how many cells it has behind its opening mark, and how it ends
pub record Quoted : Type 0 where
  pub bytes : List ℕ
  pub more : ℕ
  pub ending : Ending

abbrev pub with_byte : ℕ → Quoted → Quoted
with_byte byte quoted = record { bytes = byte ∷ quoted.bytes; more = quoted.more + 1; ending = quoted.ending }

abbrev pub one_more : Quoted → Quoted
one_more quoted = record { bytes = quoted.bytes; more = quoted.more + 1; ending = quoted.ending }

abbrev pub ended : Ending → Quoted
ended ending = record { bytes = []; more = 0; ending = ending }

-- the rest of a literal; `marked` says that its mark came right before, which ends it unless it comes once more
abbrev pub quoted : ℕ → Bool → List Piece → Quoted
quoted mark marked (Piece.at cell ∷ text) =
    if cell.byte == mark then (if marked then with_byte mark (quoted mark false text) else one_more (quoted mark true text))
    else (if marked then ended Ending.closed else with_byte cell.byte (quoted mark false text))
quoted mark true _ = ended Ending.closed
quoted mark false [] = ended Ending.open_so_far
quoted mark false (Piece.line_end ∷ text) = ended Ending.open_at_line_end
quoted mark false (Piece.wrong line ∷ text) = ended (Ending.broken line)

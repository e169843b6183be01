-- The joined text of source lines, and its words or its first fault.
use Rattle.std.specs.Prelude.{ℕ, List, [], ◌∷◌, ◌++◌, ◌==◌, if◌then◌else◌, Option, Some, None, Result, Ok, Err, ◌≡◌}
use Rattle.cob_base.specs.declared.line.Line.{Line}
use Rattle.cob_base.specs.declared.line.SourceLine.{SourceLine}
use Rattle.cob_base.specs.declared.word.Spoken.{Spoken}
use Rattle.cob_base.specs.Bytes.{behind_spaces}
use Rattle.cobol_words.specs.declared.fault.WordFault.{WordFault}
use Rattle.cobol_words.specs.declared.fault.WordFault.TheVariants as faults
use Rattle.cobol_words.specs.Joined.{Piece, cells, trimmed, filling}
use Rattle.cobol_words.specs.Runs.{Found}
use Rattle.cobol_words.specs.Words.{at_start, found_in}

-- the mark of the literal that is open where the text so far ends
abbrev pub open_literal : List Found → Option ℕ
open_literal [] = None
open_literal (Found.unclosed mark ∷ []) = Some mark
open_literal (_ ∷ found) = open_literal found

-- what a continuation line goes on with in a literal: what stands behind the literal's mark, which is its first nonspace byte
abbrev pub behind_mark : ℕ → Line → List ℕ → List Piece
behind_mark mark line [] = Piece.wrong line ∷ []
behind_mark mark line (byte ∷ bytes) = if byte == mark then cells line bytes else Piece.wrong line ∷ []

abbrev pub own_text : SourceLine → List Piece
own_text line = cells line.line (trimmed line.text)

-- how a continuation line goes on after the line last: a literal that is open at the end of a fixed line reaches to
-- column 72 and goes on behind its mark; where none is open, the spaces between the two lines fall away
abbrev pub continuation : Option ℕ → SourceLine → SourceLine → List Piece
continuation None last line = cells line.line (behind_spaces (trimmed line.text))
continuation (Some mark) last line =
    if last.fixed then filling last ++ behind_mark mark line.line (behind_spaces (trimmed line.text))
    else Piece.line_end ∷ own_text line

-- what a line adds to the text before it, which ends with the line last; mark is that of a literal that is open there
abbrev pub joining : Option ℕ → SourceLine → SourceLine → List Piece
joining mark last line = if line.continued then continuation mark last line else Piece.line_end ∷ own_text line

-- the text so far, which ends with the line last, with one more line joined on
abbrev pub joined_on : List Piece → SourceLine → SourceLine → List Piece
joined_on text last line = text ++ joining (open_literal (found_in at_start 0 text)) last line

abbrev pub joined_all : List Piece → SourceLine → List SourceLine → List Piece
joined_all text last [] = text
joined_all text last (line ∷ lines) = joined_all (joined_on text last line) line lines

-- the first line, before which nothing stands
abbrev pub first_text : SourceLine → List Piece
first_text line = if line.continued then Piece.wrong line.line ∷ [] else own_text line

-- the joined text of lines
abbrev pub joined : List SourceLine → List Piece
joined [] = []
joined (line ∷ lines) = joined_all (first_text line) line lines ++ Piece.line_end ∷ []

abbrev pub with_word : Spoken → Result (List Spoken) WordFault → Result (List Spoken) WordFault
with_word word (Ok words) = Ok (word ∷ words)
with_word word (Err fault) = Err fault

-- the words that were found, or the first fault
abbrev pub words_or_fault : List Found → Result (List Spoken) WordFault
words_or_fault [] = Ok []
words_or_fault (Found.said word ∷ found) = with_word word (words_or_fault found)
words_or_fault (Found.fault fault ∷ found) = Err fault
words_or_fault (Found.unclosed mark ∷ found) = words_or_fault found

-- the words of lines, or their first fault
abbrev pub WordsOf : List SourceLine → Result (List Spoken) WordFault
WordsOf lines = words_or_fault (found_in at_start 0 (joined lines))

-- what was answered is what is said; want of memory alone says nothing
abbrev pub GivesWords : {A : Type 0} → Result A WordFault → Result A WordFault → Type 0
GivesWords (Ok words) said = said ≡ Ok words
GivesWords (Err faults.NoMemory) said = Unit {0}
GivesWords (Err fault) said = said ≡ Err fault

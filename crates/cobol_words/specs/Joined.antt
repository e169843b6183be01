-- The cells of a joined text, and what can be said of a list of them.
use Rattle.std.specs.Prelude.{ℕ, ◌-◌, List, [], ◌∷◌, Bool, false, ◌==◌, map, max, length, replicate, if◌then◌else◌}
use Rattle.std.specs.List.{list_all}
use Rattle.cob_base.specs.declared.line.Line.{Line}
use Rattle.cob_base.specs.declared.line.SourceLine.{SourceLine}
use Rattle.cob_base.specs.Bytes.{space}
use Rattle.cobol_words.specs.declared.cell.Cell.{Cell}

-- a cell of a joined text: a byte with the line that it stands in, the end of a line after which the text isn't joined
-- on, or a continuation line that can't be joined on
pub data Piece : Type 0 where
  at : Cell → Piece
  line_end : Piece
  wrong : Line → Piece

abbrev pub cells : Line → List ℕ → List Piece
cells line bytes = map (λ byte. Piece.at (record { byte = byte; line = line })) bytes

-- the bytes at the front that pass a test, up to the first that doesn't or the line's end
abbrev pub bytes_while : (ℕ → Bool) → List Piece → List ℕ
bytes_while p [] = []
bytes_while p (Piece.at cell ∷ text) = if p cell.byte then cell.byte ∷ bytes_while p text else []
bytes_while p (_ ∷ text) = []

-- what stands behind them
abbrev pub behind_while : (ℕ → Bool) → List Piece → List Piece
behind_while p [] = []
behind_while p (Piece.at cell ∷ text) = if p cell.byte then behind_while p text else Piece.at cell ∷ text
behind_while p (piece ∷ text) = piece ∷ text

-- whether the text goes on with this byte
abbrev pub goes_on_with : ℕ → List Piece → Bool
goes_on_with byte [] = false
goes_on_with byte (Piece.at cell ∷ text) = cell.byte == byte
goes_on_with byte (_ ∷ text) = false

-- the spaces at the end of a line's text fall away
abbrev pub trimmed : List ℕ → List ℕ
trimmed [] = []
trimmed (byte ∷ bytes) = if list_all (λ b. b == space) (byte ∷ bytes) then [] else byte ∷ trimmed bytes

-- the spaces at the end of a fixed line, which reaches to column 72: its program text has 65 columns
abbrev pub filling : SourceLine → List Piece
filling line = cells line.line (replicate (max (length line.text) 65 - length (trimmed line.text)) space)

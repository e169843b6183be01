-- What the cutter keeps of the text so far.
use Rattle.std.specs.Prelude.{ℕ, List, [], ◌∷◌, ◌++◌, true, false, Option, Some, None, ◌≡◌, length}
use Rattle.cob_base.specs.declared.line.SourceLine.{SourceLine}
use Rattle.cobol_words.specs.declared.cell.Cell.{Cell}
use Rattle.cobol_words.specs.declared.before.Before.{Before}
use Rattle.cobol_words.specs.declared.cutter.Cutter.{Cutter}
use Rattle.cobol_words.specs.declared.cutter.Stage.{Stage}
use Rattle.cobol_words.specs.declared.cutter.Stage.TheVariants as stages
use Rattle.cobol_words.specs.Joined.{Piece}
use Rattle.cobol_words.specs.Quoted.{Ending, Quoted, quoted}
use Rattle.cobol_words.specs.Runs.{Found}
use Rattle.cobol_words.specs.Pictures.{is_break}
use Rattle.cobol_words.specs.Words.{found_in, behind_space, at_start}
use Rattle.cobol_words.specs.Text.{joined_all}
use Rattle.cobol_words.specs.Taking.{text_of, stops_words, IsSolid, HasNoQuote, is_quote, wants_none, found_after}

-- the cells with which a literal or a comment began
abbrev pub opening : Stage → List Cell
opening stages.Outside = []
opening (stages.Literal mark) = mark ∷ []
opening (stages.Closed mark) = mark ∷ []
opening (stages.Comment star end) = star ∷ end ∷ []

-- what is found in the whole text, where this text follows the one so far
abbrev pub ahead : Cutter → List Piece → List Found
ahead cutter text = found_after cutter.words cutter.before (opening cutter.stage ++ cutter.cells.items) text

-- cells that stand side by side
abbrev pub IsOutside : Before → List Cell → Type 0
IsOutside before cells = IsSolid cells × (wants_none before.wish ≡ true → HasNoQuote cells)

-- the cells behind the opening mark of a literal that is open
pub record IsOpen (mark : Cell) (before : Before) (cells : List Cell) : Type 0 where
  pub quote : is_quote mark.byte ≡ true
  pub plain : wants_none before.wish ≡ true
  pub ending : (quoted mark.byte false (text_of cells)).ending ≡ Ending.open_so_far

-- the cells behind the opening mark of a literal of which the last is its mark
pub record IsClosed (mark : Cell) (before : Before) (cells : List Cell) : Type 0 where
  pub quote : is_quote mark.byte ≡ true
  pub plain : wants_none before.wish ≡ true
  pub ending : (quoted mark.byte false (text_of cells)).ending ≡ Ending.closed
  pub whole : (quoted mark.byte false (text_of cells)).more ≡ length cells

pub record IsComment (star end : Cell) (before : Before) (cells : List Cell) : Type 0 where
  pub star_is : star.byte ≡ 42
  pub end_is : end.byte ≡ 62
  pub spaced : before.spaced ≡ true
  pub none : cells ≡ []

abbrev pub IsAt : Stage → Before → List Cell → Type 0
IsAt stages.Outside before cells = IsOutside before cells
IsAt (stages.Literal mark) before cells = IsOpen mark before cells
IsAt (stages.Closed mark) before cells = IsClosed mark before cells
IsAt (stages.Comment star end) before cells = IsComment star end before cells

abbrev pub IsCutter : Cutter → Type 0
IsCutter cutter = IsAt cutter.stage cutter.before cutter.cells.items

abbrev pub IsCommentTo : Cell → Stage → Type 0
IsCommentTo end (stages.Comment star last) = last ≡ end
IsCommentTo end _ = ⊥

-- a space, a line end or a comment, of which only the wish for a picture passes on
pub record Breaks (text : List Piece) : Type 0 where
  pub stops : stops_words text ≡ true
  pub breaks : is_break text ≡ true
  pub spaces : (before : Before) → found_in before 0 text ≡ found_in (behind_space before.wish) 0 text

-- a literal that is closed and stands for these bytes
abbrev pub closed_with : List ℕ → Quoted
closed_with bytes = record { bytes = bytes; more = 0; ending = Ending.closed }

-- the mark of the literal that is open
abbrev pub open_mark : Stage → Option ℕ
open_mark (stages.Literal mark) = Some mark.byte
open_mark _ = None

-- the cutter has read this text
abbrev pub HasRead : Cutter → List Piece → Type 0
HasRead cutter text = (after : List Piece) → ahead cutter after ≡ found_in at_start 0 (text ++ after)

-- the cutter has read some text that the lines to come make to the whole text
abbrev pub HasJoined : Cutter → SourceLine → List SourceLine → List Piece → Type 0
HasJoined cutter last lines whole = (text : List Piece) × HasRead cutter text × (joined_all text last lines ≡ whole)

-- What the steps of the cutter answer, beside what the definitions say.
use Rattle.std.specs.Prelude.{ℕ, List, [], ◌∷◌, ◌++◌, Bool, true, false, ◌==◌, ◌||◌, ◌&&◌, length, if◌then◌else◌, map, Option, Some, None, Result, Ok, Err, ◌≡◌, codes}
use Rattle.std.specs.List.{list_any}
use Rattle.cob_base.specs.declared.line.Line.{Line}
use Rattle.cob_base.specs.declared.word.Word.{Word}
use Rattle.cob_base.specs.declared.word.Word.TheVariants as words
use Rattle.cob_base.specs.Bytes.{same_word}
use Rattle.cob_base.specs.declared.word.Spoken.{Spoken}
use Rattle.cobol_words.specs.declared.before.Before.{Before}
use Rattle.cobol_words.specs.declared.before.Wish.{Wish}
use Rattle.cobol_words.specs.declared.before.Wish.TheVariants as wishes
use Rattle.cobol_words.specs.declared.picture.Wished.{Wished}
use Rattle.cobol_words.specs.declared.cell.Cell.{Cell}
use Rattle.cobol_words.specs.declared.take.FirstWord.{FirstWord}
use Rattle.cobol_words.specs.declared.fault.WordFault.{WordFault}
use Rattle.cobol_words.specs.declared.fault.WordFault.TheVariants as faults
use Rattle.cobol_words.specs.Joined.{Piece}
use Rattle.cobol_words.specs.Runs.{Found, word_at}
use Rattle.cobol_words.specs.Pictures.{is_break, less_final_mark}
use Rattle.cobol_words.specs.Words.{Taken, takes, found_in}
use Rattle.cobol_words.specs.Text.{words_or_fault}

-- the pieces that cells are
abbrev pub text_of : List Cell → List Piece
text_of cells = map Piece.at cells

-- the answer is the word that is found, or the fault; want of memory alone says nothing
abbrev pub FoundAs : Line → Result Word WordFault → Found → Type 0
FoundAs line (Ok word) found = found ≡ word_at line word
FoundAs line (Err faults.NoMemory) found = Unit {0}
FoundAs line (Err fault) found = found ≡ Found.fault fault

abbrev pub word_found : Line → Option Word → List Found
word_found line None = []
word_found line (Some word) = word_at line word ∷ []

-- the answer is what is taken at the front, or the fault that is found there
abbrev pub TakenAs : Line → Result FirstWord WordFault → Taken → Type 0
TakenAs line (Ok first) taken = taken ≡ takes (word_found line first.word) first.more first.before
TakenAs line (Err faults.NoMemory) taken = Unit {0}
TakenAs line (Err fault) taken = taken.found ≡ Found.fault fault ∷ []

-- a space, a line end, a comment or a quote, behind which no word goes on
abbrev pub stops_words : List Piece → Bool
stops_words [] = true
stops_words (Piece.at cell ∷ text) = list_any (λ byte. byte == cell.byte) (codes " *\"'")
stops_words (_ ∷ text) = true

-- what follows cells that stand side by side; `ends` says that it is no quote
pub record Follows (ends : Bool) (text : List Piece) : Type 0 where
  pub stops : stops_words text ≡ true
  pub breaks : is_break text ≡ ends

abbrev pub is_quote : ℕ → Bool
is_quote byte = (byte == 34) || (byte == 39)

-- cells without a space and without `*>`
abbrev pub IsSolid : List Cell → Type 0
IsSolid [] = Unit {0}
IsSolid (cell ∷ cells) = (is_break (Piece.at cell ∷ text_of cells) ≡ false) × IsSolid cells

-- cells of which none is a quote
abbrev pub HasNoQuote : List Cell → Type 0
HasNoQuote [] = Unit {0}
HasNoQuote (cell ∷ cells) = (is_quote cell.byte ≡ false) × HasNoQuote cells

-- what is found in a text of which these words were cut, and behind them these cells stand
abbrev pub found_after : List Spoken → Before → List Cell → List Piece → List Found
found_after words before cells text = map Found.said words ++ found_in before 0 (text_of cells ++ text)

-- the answer is what was cut further, or the first fault; want of memory alone says nothing
abbrev pub GoesOn : {A : Type 0} → Result A WordFault → (A → List Found) → List Found → Type 0
GoesOn (Ok cut) after found = after cut ≡ found
GoesOn (Err faults.NoMemory) after found = Unit {0}
GoesOn (Err fault) after found = words_or_fault found ≡ Err fault

abbrev pub may_be_is : Wish → Bool
may_be_is wishes.PictureOrIs = true
may_be_is _ = false

abbrev pub wants_none : Wish → Bool
wants_none wishes.NoPicture = true
wants_none _ = false

-- 1 where a picture is wanted, else 0
abbrev pub is_wished : Before → ℕ
is_wished before = if wants_none before.wish then 0 else 1

abbrev pub picture_of : Bool → List ℕ → Wished
picture_of spaced picture = record { word = words.Picture picture; len = length picture; before = record { wish = wishes.NoPicture; spaced = spaced && (length picture == 0) } }

-- what is cut of a run of nonspace bytes where a picture is wanted
abbrev pub wished_of : Wish → Bool → List ℕ → Wished
wished_of wish spaced run =
    if may_be_is wish && same_word run (codes "IS") then record { word = words.Name run; len = length run; before = record { wish = wishes.Picture; spaced = false } }
    else picture_of spaced (less_final_mark run)

abbrev pub spoken_of : Line → Option Word → List Spoken
spoken_of line None = []
spoken_of line (Some word) = record { line = line; word = word } ∷ []

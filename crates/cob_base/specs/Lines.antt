-- The lines of a program text.
--
-- A text is cut at its line feeds. The directives above a line fix its form, and the text begins in fixed form. Each
-- line is then judged by itself, and either counts for nothing, is a line of program text, or is at fault. The lines of
-- the text are those of program text in order, or there are none and the first fault counts.
use Rattle.std.specs.Prelude.{ℕ, ◌+◌, List, [], ◌∷◌, Bool, true, false, not, ◌==◌, ◌&&◌, ◌||◌, map, take, drop, if◌then◌else◌, Option, Some, None, unwrap_or, option_and_then, is_none, Result, Ok, Err, slice_index_or, codes, ◌≡◌}
use Rattle.std.specs.List.{list_all, list_any}
use Rattle.cob_base.specs.declared.line.Line.{Line}
use Rattle.cob_base.specs.declared.line.SourceLine.{SourceLine}
use Rattle.cob_base.specs.declared.fault.TextFault.{TextFault}
use Rattle.cob_base.specs.declared.fault.TextFault.TheVariants as faults
use Rattle.cob_base.specs.Bytes.{line_feed, carriage_return, space, is_printable, begins_with, begins_with_both, behind_spaces, same_word}

-- a byte at the front of the first line of a text
abbrev pub on_first_line : ℕ → List (List ℕ) → List (List ℕ)
on_first_line byte [] = (byte ∷ []) ∷ []
on_first_line byte (line ∷ lines) = (byte ∷ line) ∷ lines

-- the lines of a text: a line feed ends a line, a carriage return right before it falls away, and every other byte
-- belongs to the line that it stands in
abbrev pub cut_into_lines : List ℕ → List (List ℕ)
cut_into_lines [] = []
cut_into_lines (byte ∷ text) =
    if byte == line_feed then [] ∷ cut_into_lines text
    else if (byte == carriage_return) && begins_with line_feed text then cut_into_lines text
    else on_first_line byte (cut_into_lines text)

-- the columns that are not ignored: in fixed form the first 72
abbrev pub columns : Bool → List ℕ → List ℕ
columns fixed line = if fixed then take 72 line else line

-- the program text of a line's columns: in fixed form columns 8 to 72
abbrev pub program_text : Bool → List ℕ → List ℕ
program_text fixed line = if fixed then drop 7 line else line

-- the indicator of a line's columns: in fixed form column 7, where there is one; every other line is one as with a space
abbrev pub indicator : Bool → List ℕ → ℕ
indicator fixed line = if fixed then slice_index_or line 6 space else space

abbrev pub is_comment_indicator : ℕ → Bool
is_comment_indicator byte = list_any (λ known. known == byte) (codes "*/Dd")

abbrev pub is_indicator : ℕ → Bool
is_indicator byte = list_any (λ known. known == byte) (codes " -*/Dd")

-- the first nonspace bytes are `>>`
abbrev pub begins_directive : List ℕ → Bool
begins_directive text = begins_with_both 62 62 (behind_spaces text)

-- the first nonspace bytes are `*>`
abbrev pub begins_comment : List ℕ → Bool
begins_comment text = begins_with_both 42 62 (behind_spaces text)

-- the directive that a line is: where its columns begin with `>>`, or the program text behind a space as indicator does
abbrev pub directive_of : Bool → List ℕ → Option (List ℕ)
directive_of fixed line =
    if begins_directive line then Some line
    else if (indicator fixed line == space) && begins_directive (program_text fixed line) then Some (program_text fixed line)
    else None

-- a byte at the front of a list of words, where the byte after it belongs to the same word or doesn't
abbrev pub on_first_word : ℕ → Bool → List (List ℕ) → List (List ℕ)
on_first_word byte goes_on [] = (byte ∷ []) ∷ []
on_first_word byte goes_on (word ∷ words) = if goes_on then (byte ∷ word) ∷ words else (byte ∷ []) ∷ word ∷ words

-- the words that the spaces of a line separate
abbrev pub words_of : List ℕ → List (List ℕ)
words_of [] = []
words_of (byte ∷ text) =
    if byte == space then words_of text
    else on_first_word byte (not (begins_with space text)) (words_of text)

-- a list of words without its first, where that is this optional word
abbrev pub without : List ℕ → List (List ℕ) → List (List ℕ)
without optional [] = []
without optional (word ∷ words) = if same_word word optional then words else word ∷ words

-- the last word of a directive, FREE or FIXED, alone
abbrev pub form_named : List (List ℕ) → Option Bool
form_named [] = None
form_named (word ∷ []) = if same_word word (codes "FREE") then Some false else if same_word word (codes "FIXED") then Some true else None
form_named (word ∷ more ∷ words) = None

-- the form that a directive sets: its words are `>>SOURCE [FORMAT] [IS] FREE` or `>>SOURCE [FORMAT] [IS] FIXED`, in
-- either case of letters
abbrev pub form_of_words : List (List ℕ) → Option Bool
form_of_words [] = None
form_of_words (word ∷ words) =
    if same_word word (codes ">>SOURCE") then form_named (without (codes "IS") (without (codes "FORMAT") words)) else None

-- the form after a line, from the form that it stands in and its columns
abbrev pub form_after : Bool → List ℕ → Bool
form_after fixed line = unwrap_or (option_and_then (λ text. form_of_words (words_of text)) (directive_of fixed line)) fixed

abbrev pub numbered : ℕ → Line
numbered n = record { 0 = n }

-- a line in its place: its number from 1, whether it stands in fixed form, and its columns
pub record Placed : Type 0 where
  pub number : Line
  pub fixed : Bool
  pub line : List ℕ

-- lines in their places, from a number and a form on
abbrev pub placed : ℕ → Bool → List (List ℕ) → List Placed
placed number fixed [] = []
placed number fixed (line ∷ lines) =
    record { number = numbered number; fixed = fixed; line = columns fixed line }
    ∷ placed (number + 1) (form_after fixed (columns fixed line)) lines

-- a directive sets a form, and its bytes are printable
abbrev pub judged_directive : Placed → List ℕ → Result (Option SourceLine) TextFault
judged_directive place text =
    if is_none (form_of_words (words_of text)) then Err (faults.BadDirective place.number)
    else if list_all is_printable place.line then Ok None
    else Err (faults.BadByte place.number)

-- every other line has an indicator; it is a comment line, or its bytes are printable and its program text counts unless
-- it is blank
abbrev pub judged_text : Placed → List ℕ → Result (Option SourceLine) TextFault
judged_text place text =
    if not (is_indicator (indicator place.fixed place.line)) then Err (faults.BadIndicator place.number)
    else if is_comment_indicator (indicator place.fixed place.line) || begins_comment text then Ok None
    else if not (list_all is_printable place.line) then Err (faults.BadByte place.number)
    else if list_all (λ byte. byte == space) text then Ok None
    else Ok (Some (record {
      line = place.number;
      fixed = place.fixed;
      continued = indicator place.fixed place.line == 45;
      text = text;
    }))

-- what a line comes to: nothing, a line of program text, or its first fault
abbrev pub judged : Placed → Result (Option SourceLine) TextFault
judged place = either_of (directive_of place.fixed place.line)
  where
    either_of : Option (List ℕ) → Result (Option SourceLine) TextFault
    either_of (Some text) = judged_directive place text
    either_of None = judged_text place (program_text place.fixed place.line)

abbrev pub with_line : SourceLine → Result (List SourceLine) TextFault → Result (List SourceLine) TextFault
with_line line (Ok lines) = Ok (line ∷ lines)
with_line line (Err fault) = Err fault

-- the lines of program text in order, or the first fault
abbrev pub lines_or_fault : List (Result (Option SourceLine) TextFault) → Result (List SourceLine) TextFault
lines_or_fault [] = Ok []
lines_or_fault (Ok None ∷ rest) = lines_or_fault rest
lines_or_fault (Ok (Some line) ∷ rest) = with_line line (lines_or_fault rest)
lines_or_fault (Err fault ∷ rest) = Err fault

-- the lines of a text, or its first fault
abbrev pub LinesOf : List ℕ → Result (List SourceLine) TextFault
LinesOf text = lines_or_fault (map judged (placed 1 true (cut_into_lines text)))

-- what was answered is what is said; want of memory alone says nothing
abbrev pub GivesLines : {A : Type 0} → Result A TextFault → Result A TextFault → Type 0
GivesLines (Ok lines) said = said ≡ Ok lines
GivesLines (Err faults.NoMemory) said = Unit {0}
GivesLines (Err fault) said = said ≡ Err fault

-- The words of a joined text, each the longest that begins where the one before it ended.
use Rattle.std.specs.Prelude.{ℕ, ◌+◌, ◌-◌, zero, suc, List, [], ◌∷◌, ◌++◌, Bool, true, false, ◌==◌, ◌&&◌, ◌||◌, nat_lt, length, if◌then◌else◌, Option, Some, None, codes}
use Rattle.std.specs.List.{list_all, list_any}
use Rattle.cob_base.specs.declared.line.Line.{Line}
use Rattle.cob_base.specs.declared.word.Word.TheVariants as words
use Rattle.cob_base.specs.Bytes.{space, same_word}
use Rattle.cobol_words.specs.declared.before.Wish.{Wish}
use Rattle.cobol_words.specs.declared.before.Wish.TheVariants as wishes
use Rattle.cobol_words.specs.declared.before.Before.{Before}
use Rattle.cobol_words.specs.declared.cell.Cell.{Cell}
use Rattle.cobol_words.specs.declared.fault.WordFault.TheVariants as faults
use Rattle.cobol_words.specs.Joined.{Piece, bytes_while, behind_while, goes_on_with}
use Rattle.cobol_words.specs.Quoted.{Ending, Quoted, quoted}
use Rattle.cobol_words.specs.Runs.{Found, word_at, number_at, name_at, decimals_in, is_digit, is_run_byte, begins_run}
use Rattle.cobol_words.specs.Pictures.{wish_after, is_break, bytes_to_break, less_final_mark}

-- before the first line stands a line's start
abbrev pub at_start : Before
at_start = record { wish = wishes.NoPicture; spaced = true }

abbrev pub behind_word : Before
behind_word = record { wish = wishes.NoPicture; spaced = false }

abbrev pub behind_space : Wish → Before
behind_space wish = record { wish = wish; spaced = true }

-- what is cut at a place: what is found there, how many pieces behind the first one belong to it, and what it is for the
-- place behind it
pub record Taken : Type 0 where
  pub found : List Found
  pub more : ℕ
  pub before : Before

abbrev pub takes : List Found → ℕ → Before → Taken
takes found more before = record { found = found; more = more; before = before }

-- how many pieces the decimals of a number have, with their period
abbrev pub decimals_len : List ℕ → ℕ
decimals_len [] = 0
decimals_len (digit ∷ digits) = length digits + 2

-- a number: behind its digits a period with a digit right after it belongs to it, with the digits there
abbrev pub take_number : Line → Option ℕ → List ℕ → ℕ → List Piece → Taken
take_number line sign digits more behind =
    takes (number_at line sign digits (decimals_in behind) ∷ []) (more + decimals_len (decimals_in behind)) behind_word

abbrev pub take_name : Line → List ℕ → ℕ → Taken
take_name line run more = takes (name_at line run ∷ []) more (record { wish = wish_after run; spaced = false })

abbrev pub run_taken : Line → List ℕ → ℕ → List Piece → Taken
run_taken line run more behind = if list_all is_digit run then take_number line None run more behind else take_name line run more

-- a run: a number where it is all digits, and else a name
abbrev pub take_run : Cell → List Piece → Taken
take_run cell text =
    run_taken cell.line (cell.byte ∷ bytes_while is_run_byte text) (length (bytes_while is_run_byte text)) (behind_while is_run_byte text)

abbrev pub take_mark : Cell → Before → Taken
take_mark cell before = takes (word_at cell.line (words.Mark (cell.byte ∷ [])) ∷ []) 0 before

-- whether the run at the front is there and is all digits
abbrev pub is_digits : List ℕ → Bool
is_digits [] = false
is_digits (byte ∷ run) = list_all is_digit (byte ∷ run)

abbrev pub sign_taken : Bool → Cell → List ℕ → List Piece → Taken
sign_taken spaced cell run behind =
    if spaced && is_digits run then take_number cell.line (Some cell.byte) run (length run) behind else take_mark cell behind_word

-- a sign belongs to the number behind it where a space, `(` or a line's start stands before it
abbrev pub take_sign : Bool → Cell → List Piece → Taken
take_sign spaced cell text = sign_taken spaced cell (bytes_while is_run_byte text) (behind_while is_run_byte text)

-- `<=` and `>=` are one mark
abbrev pub take_angle : Cell → List Piece → Taken
take_angle cell text =
    if goes_on_with 61 text then takes (word_at cell.line (words.Mark (cell.byte ∷ 61 ∷ [])) ∷ []) 1 behind_word
    else take_mark cell behind_word

-- how many bytes at the front stand in the line
abbrev pub bytes_in_line : Line → List Piece → ℕ
bytes_in_line line [] = 0
bytes_in_line line (Piece.at cell ∷ text) = if cell.line.0 == line.0 then bytes_in_line line text + 1 else 0
bytes_in_line line (_ ∷ text) = 0

-- a comment reaches to the end of the line in which its `>` stands, and is a space
abbrev pub comment_len : List Piece → ℕ
comment_len [] = 0
comment_len (Piece.at cell ∷ text) = bytes_in_line cell.line text + 1
comment_len (_ ∷ text) = 0

abbrev pub found_in_quotes : Cell → Quoted → Found
found_in_quotes cell literal = by_ending literal.ending
  where
    by_ending : Ending → Found
    by_ending Ending.closed =
        if length literal.bytes == 0 then Found.fault (faults.BadCharacter cell.line)
        else if nat_lt 160 (length literal.bytes) then Found.fault (faults.LongLiteral cell.line)
        else word_at cell.line (words.Text literal.bytes)
    by_ending Ending.open_at_line_end = Found.fault (faults.OpenLiteral cell.line)
    by_ending Ending.open_so_far = Found.unclosed cell.byte
    by_ending (Ending.broken line) = Found.fault (faults.BadContinuation line)

abbrev pub take_literal : Cell → List Piece → Taken
take_literal cell text =
    takes (found_in_quotes cell (quoted cell.byte false text) ∷ []) (quoted cell.byte false text).more behind_word

-- before a space, a line end or a comment a period is the separator period, and a comma or semicolon is a space
abbrev pub take_period_before : Bool → Cell → Taken
take_period_before break cell =
    if break then takes (word_at cell.line words.Stop ∷ []) 0 behind_word
    else takes (Found.fault (faults.BadCharacter cell.line) ∷ []) 0 behind_word

abbrev pub take_comma_before : Bool → Cell → Taken
take_comma_before break cell =
    if break then takes [] 0 behind_word
    else takes (Found.fault (faults.BadCharacter cell.line) ∷ []) 0 behind_word

-- what is cut at a byte that is no space where no picture is wanted
abbrev pub take_word : Bool → Cell → List Piece → Taken
take_word spaced cell text =
    if begins_run cell.byte then take_run cell text
    else if (cell.byte == 34) || (cell.byte == 39) then take_literal cell text
    else if (cell.byte == 43) || (cell.byte == 45) then take_sign spaced cell text
    else if (cell.byte == 60) || (cell.byte == 62) then take_angle cell text
    else if list_any (λ mark. mark == cell.byte) (codes "*/=()") then take_mark cell (record { wish = wishes.NoPicture; spaced = cell.byte == 40 })
    else if cell.byte == 46 then take_period_before (is_break text) cell
    else if (cell.byte == 44) || (cell.byte == 59) then take_comma_before (is_break text) cell
    else takes (Found.fault (faults.BadCharacter cell.line) ∷ []) 0 behind_word

abbrev pub with_picture : Cell → List ℕ → Taken → Taken
with_picture cell picture taken = takes (word_at cell.line (words.Picture picture) ∷ taken.found) taken.more taken.before

-- a picture is a run of nonspace bytes less one final mark, which is cut as it is anywhere else
abbrev pub picture_less_mark : Bool → Cell → List Piece → List ℕ → Taken
picture_less_mark spaced cell text [] = with_picture cell [] (take_word spaced cell text)
picture_less_mark spaced cell text (byte ∷ bytes) = takes (word_at cell.line (words.Picture (byte ∷ bytes)) ∷ []) (length bytes) behind_word

-- what is cut at the front of a run of nonspace bytes: where a picture is wanted it is the picture, and the word IS may
-- stand before it once
abbrev pub take_wished : Wish → Bool → Cell → List Piece → List ℕ → Taken
take_wished wishes.NoPicture spaced cell text run = take_word spaced cell text
take_wished wishes.Picture spaced cell text run = picture_less_mark spaced cell text (less_final_mark run)
take_wished wishes.PictureOrIs spaced cell text run =
    if same_word run (codes "IS") then takes (word_at cell.line (words.Name run) ∷ []) (length run - 1) (record { wish = wishes.Picture; spaced = false })
    else picture_less_mark spaced cell text (less_final_mark run)

-- what is cut at a byte
abbrev pub take_at : Before → Cell → List Piece → Taken
take_at before cell text =
    if cell.byte == space then takes [] 0 (behind_space before.wish)
    else if (cell.byte == 42) && goes_on_with 62 text then takes [] (comment_len text) (behind_space before.wish)
    else take_wished before.wish before.spaced cell text (bytes_to_break (Piece.at cell ∷ text))

-- what is found in a text from a place on, behind this many pieces of it that belong to what was cut
abbrev pub found_in : Before → ℕ → List Piece → List Found
found_in before skipped [] = []
found_in before (suc skipped) (piece ∷ text) = found_in before skipped text
found_in before zero (Piece.at cell ∷ text) = (take_at before cell text).found ++ found_in (take_at before cell text).before (take_at before cell text).more text
found_in before zero (Piece.line_end ∷ text) = found_in (behind_space before.wish) zero text
found_in before zero (Piece.wrong line ∷ text) = Found.fault (faults.BadContinuation line) ∷ found_in before zero text

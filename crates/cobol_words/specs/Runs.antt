-- Runs of letters, digits, `-` and `_`: names and numbers.
use Rattle.std.specs.Prelude.{ℕ, ◌+◌, ◌-◌, ◌*◌, ◌^◌, List, [], ◌∷◌, ◌++◌, Bool, ◌==◌, ◌&&◌, ◌||◌, nat_le, nat_lt, fold, length, if◌then◌else◌, Option, Some, None, ℤ, pos, neg_ℤ, is_some, slice_index}
use Rattle.std.specs.List.{list_any}
use Rattle.cob_base.specs.declared.line.Line.{Line}
use Rattle.cob_base.specs.declared.word.Word.{Word}
use Rattle.cob_base.specs.declared.word.Word.TheVariants as words
use Rattle.cob_base.specs.declared.word.Spoken.{Spoken}
use Rattle.cobol_words.specs.declared.fault.WordFault.{WordFault}
use Rattle.cobol_words.specs.declared.fault.WordFault.TheVariants as faults
use Rattle.cobol_words.specs.Joined.{Piece, bytes_while}

abbrev pub is_digit : ℕ → Bool
is_digit byte = nat_le 48 byte && nat_le byte 57

abbrev pub is_letter : ℕ → Bool
is_letter byte = (nat_le 65 byte && nat_le byte 90) || (nat_le 97 byte && nat_le byte 122)

-- `-` and `_`
abbrev pub is_joiner : ℕ → Bool
is_joiner byte = (byte == 45) || (byte == 95)

-- a byte of a run, and one that a run begins with
abbrev pub is_run_byte : ℕ → Bool
is_run_byte byte = is_letter byte || is_digit byte || is_joiner byte

abbrev pub begins_run : ℕ → Bool
begins_run byte = is_letter byte || is_digit byte

-- what stands at a place of the text: a word, a fault, or a literal that is still open where the text so far ends
pub data Found : Type 0 where
  said : Spoken → Found
  fault : WordFault → Found
  unclosed : ℕ → Found

abbrev pub word_at : Line → Word → Found
word_at line word = Found.said (record { line = line; word = word })

-- the value of digits
abbrev pub value_of : List ℕ → ℕ
value_of digits = fold (λ value digit. 10 * value + (digit - 48)) 0 digits

-- a number with the sign that is written before it
abbrev pub under_sign : Option ℕ → ℕ → ℤ
under_sign None n = pos n
under_sign (Some sign) n = if sign == 45 then neg_ℤ (pos n) else pos n

-- a number of these digits, of which so many stand behind the period: it has at most 18 of them, at most 6 behind the
-- period, and counts in millionths
abbrev pub number_of : Line → Option ℕ → List ℕ → ℕ → Found
number_of line sign digits decimals =
    if nat_lt 18 (length digits) || nat_lt 6 decimals then Found.fault (faults.LongNumber line)
    else word_at line (words.Number (under_sign sign (value_of digits * 10 ^ (6 - decimals))) (length digits) decimals (is_some sign))

abbrev pub number_at : Line → Option ℕ → List ℕ → List ℕ → Found
number_at line sign digits decimals = number_of line sign (digits ++ decimals) (length decimals)

-- the last byte is a letter or a digit
abbrev pub ends_well : List ℕ → Bool
ends_well run = begins_run (slice_index run (length run - 1))

-- a run that isn't all digits is a name where it has a letter, at most 31 bytes, and neither begins nor ends with `-` or `_`
abbrev pub name_at : Line → List ℕ → Found
name_at line run =
    if list_any is_letter run && nat_lt 31 (length run) then Found.fault (faults.LongWord line)
    else if list_any is_letter run && ends_well run then word_at line (words.Name run)
    else Found.fault (faults.BadCharacter line)

-- the digits behind a period, where one follows it
abbrev pub decimals_in : List Piece → List ℕ
decimals_in [] = []
decimals_in (Piece.at cell ∷ text) = if cell.byte == 46 then bytes_while is_digit text else []
decimals_in (_ ∷ text) = []

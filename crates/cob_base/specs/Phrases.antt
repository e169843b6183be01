-- Single words, and the phrases that several divisions share: references, constants and operands.
use Rattle.std.specs.Prelude.{ℕ, zero, suc, ◌/◌, ◌^◌, ◌==◌, nat_lt, Bool, true, false, not, ◌||◌, if◌then◌else◌, List, Option, Some, None}
use Rattle.std.specs.Int.RustNames.{unsigned_abs}
use denote.Enum.Bare.{sameb}
use Rattle.cob_base.specs.contracts.keywords.Keyword as of_keyword
use Rattle.cob_base.specs.contracts.keywords.Mark as of_mark
use Rattle.cob_base.specs.declared.keywords.Keyword.{Keyword}
use Rattle.cob_base.specs.declared.keywords.Keyword.TheVariants as k
use Rattle.cob_base.specs.declared.keywords.Mark.{Mark}
use Rattle.cob_base.specs.declared.keywords.Mark.TheVariants as marks
use Rattle.cob_base.specs.declared.tokens.Token.{Token}
use Rattle.cob_base.specs.declared.tokens.Token.TheVariants.{Key, Name, Text, Number, Picture, Mark as Sign, Stop}
use Rattle.cob_base.specs.declared.operands.Number as numbers
use Rattle.cob_base.specs.declared.operands.Figurative.{Figurative}
use Rattle.cob_base.specs.declared.operands.Figurative.TheVariants as figuratives
use Rattle.cob_base.specs.declared.operands.Constant.{Constant}
use Rattle.cob_base.specs.declared.operands.Constant.TheVariants as constants
use Rattle.cob_base.specs.declared.operands.Offset.{Offset}
use Rattle.cob_base.specs.declared.operands.Offset.TheVariants as offsets
use Rattle.cob_base.specs.declared.operands.Subscript.{Subscript}
use Rattle.cob_base.specs.declared.operands.Subscript.TheVariants as subscripts
use Rattle.cob_base.specs.declared.operands.Reference.{Reference}
use Rattle.cob_base.specs.declared.operands.Operand.{Operand}
use Rattle.cob_base.specs.declared.operands.Operand.TheVariants as operands
use Rattle.cob_base.specs.Form.{Form, before, many, is_there}
use Rattle.cob_base.specs.Form.Form.{word, mark, part, up_to, both, after, made, either, optional, too_deep}

-- ---- single words

abbrev pub is_name : Token → Option (List ℕ)
is_name (Name name) = Some name
is_name _ = None

abbrev pub is_text : Token → Option (List ℕ)
is_text (Text text) = Some text
is_text _ = None

abbrev pub is_picture : Token → Option (List ℕ)
is_picture (Picture picture) = Some picture
is_picture _ = None

abbrev pub is_number : Token → Option numbers.Number
is_number (Number number) = Some number
is_number _ = None

abbrev pub is_stop : Token → Option (Unit {0})
is_stop Stop = Some tt
is_stop _ = None

-- a number below 2 ^ 64, as each number of at most 18 digits is
abbrev pub within : ℕ → Option ℕ
within n = if nat_lt n (2 ^ 64) then Some n else None

-- the whole number that a number without a sign and without decimals is
abbrev pub int_of : numbers.Number → Option ℕ
int_of number = if number.signed || not (number.decimals == 0) then None else within (unsigned_abs number.value / 1000000)

abbrev pub is_int : Token → Option ℕ
is_int (Number number) = int_of number
is_int _ = None

-- `==` on keywords and on marks
unfoldable pub same_key : Keyword → Keyword → Bool
same_key = sameb of_keyword.the_type

unfoldable pub same_mark : Mark → Mark → Bool
same_mark = sameb of_mark.the_type

abbrev pub is_key : Keyword → Token → Option (Unit {0})
is_key want (Key have) = if same_key have want then Some tt else None
is_key want _ = None

abbrev pub is_mark : Mark → Token → Option (Unit {0})
is_mark want (Sign have) = if same_mark have want then Some tt else None
is_mark want _ = None

-- a keyword of which the function says what it stands for
abbrev pub key_for : {A : Type 0} → (Keyword → Option A) → Token → Option A
key_for stands (Key have) = stands have
key_for stands _ = None

abbrev pub key : Keyword → Form true (Unit {0})
key want = mark (is_key want)

abbrev pub sign : Mark → Form true (Unit {0})
sign want = mark (is_mark want)

abbrev pub full_stop : Form true (Unit {0})
full_stop = mark is_stop

-- a word that may be absent
unfoldable pub noise : Keyword → Form false Bool
noise want = made is_there (optional (key want))

unfoldable pub name : Form true (List ℕ)
name = word is_name

unfoldable pub int : Form true ℕ
int = word is_int

-- RECORD|RECORDS
abbrev pub record_or_records : Keyword → Option (Unit {0})
record_or_records k.Record = Some tt
record_or_records k.Records = Some tt
record_or_records _ = None

-- one of the words that are read and refused at a place, with all words up to the entry's period
abbrev pub outside_within : (Token → Option (Unit {0})) → Form true (Unit {0})
outside_within words = after (mark words) (up_to (λ token. is_there (is_stop token)))

-- ---- references: the number says how many parentheses may still open

-- (OF|IN) name
unfoldable pub qualifier : Form true (List ℕ)
qualifier = after (key k.Of) name

-- (+|-) int
unfoldable pub offset : Form true Offset
offset = either (made offsets.Plus (after (sign marks.Plus) int)) (made offsets.Minus (after (sign marks.Minus) int))

-- int | name ((OF|IN) name)* [(+|-) int]
unfoldable pub subscript_within : Form true Subscript
subscript_within = either (made subscripts.Number int)
    (made (λ (item, (qualifiers, added)). subscripts.Item item qualifiers added) (both name (both (many qualifier) (optional offset))))

unfoldable pub subscript : Form true Subscript
subscript = part subscript_within

-- "(" subscript ")"
unfoldable pub subscripted : ℕ → Form true Subscript
subscripted zero = too_deep (sign marks.LeftParenthesis)
subscripted (suc d) = after (sign marks.LeftParenthesis) (before subscript (sign marks.RightParenthesis))

-- name ((OF|IN) name)* ["(" subscript ")"]
unfoldable pub reference_within : ℕ → Form true Reference
reference_within d = made (λ (item, (qualifiers, at)). record { name = item; qualifiers = qualifiers; subscript = at })
    (both name (both (many qualifier) (optional (subscripted d))))

unfoldable pub reference : ℕ → Form true Reference
reference d = part (reference_within d)

-- ---- constants and operands

abbrev pub figurative_of : Keyword → Option Figurative
figurative_of k.Zero = Some figuratives.Zero
figurative_of k.Space = Some figuratives.Space
figurative_of k.HighValue = Some figuratives.HighValue
figurative_of k.LowValue = Some figuratives.LowValue
figurative_of _ = None

-- ZERO|ZEROS|ZEROES|SPACE|SPACES|HIGH-VALUE|HIGH-VALUES|LOW-VALUE|LOW-VALUES
unfoldable pub figurative : Form true Figurative
figurative = part (mark (key_for figurative_of))

-- text | number | figurative
unfoldable pub constant_within : Form true Constant
constant_within = either (made constants.Text (word is_text)) (either (made constants.Number (word is_number)) (made constants.Figurative figurative))

unfoldable pub constant : Form true Constant
constant = part constant_within

-- ref | constant
unfoldable pub operand_within : ℕ → Form true Operand
operand_within d = either (made operands.Reference (reference d)) (made operands.Constant constant)

unfoldable pub operand : ℕ → Form true Operand
operand d = part (operand_within d)

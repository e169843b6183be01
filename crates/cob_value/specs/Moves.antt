-- What MOVE makes of a sender's bytes, by the categories of both items.
use Rattle.std.specs.Prelude.{ℕ, nat_lt, ℤ, pos, Bool, true, ◌≡◌, not, ◌&&◌, ◌||◌, if◌then◌else◌, List, replicate}
use Rattle.picture_rule.specs.Picture.{PictureValue}
use Rattle.picture_rule.specs.Editing.{edited, unedited}
use Rattle.picture_rule.specs.declared.kind.PictureKind.{PictureKind}
use Rattle.picture_rule.specs.declared.kind.PictureKind.TheVariants.{Alphanumeric, Group, Numeric, Edited}
use Rattle.cob_base.specs.declared.operands.Figurative.{Figurative}
use Rattle.cob_value.specs.Texts.{fitted}
use Rattle.cob_value.specs.Values.{digits_of, value_of, text_value}
use Rattle.cob_value.specs.Figures.{is_alphanumeric, is_group, is_numeric, is_number, is_zero, figure_byte}

-- An item stands as a text unless it is numeric with decimal places.
abbrev pub has_text : PictureValue → Bool
has_text p = not (is_numeric p.kind && nat_lt 0 p.decimals)

-- the text that an item stands as: a number's is its digits, without a sign
abbrev pub text_of : PictureValue → List ℕ → List ℕ
text_of p bytes = if is_numeric p.kind then digits_of p bytes else bytes

-- Every item may be moved into every other, but into an alphanumeric one only what stands as a text.
abbrev pub may_move : PictureValue → PictureValue → Bool
may_move from to = not (is_alphanumeric to.kind) || has_text from

abbrev pub MayMove : PictureValue → PictureValue → Type 0
MayMove from to = may_move from to ≡ true

-- the value that a numeric or edited receiver gets, by the sender's category
abbrev pub value_sent : PictureKind → PictureValue → List ℕ → ℤ
value_sent Alphanumeric p bytes = text_value bytes
value_sent Group p bytes = text_value bytes
value_sent Numeric p bytes = value_of p bytes
value_sent Edited p bytes = unedited p bytes

-- What a receiver holds after a MOVE. From and to a group the bytes are copied, an alphanumeric item takes the sender's text, and
-- a numeric or edited item its value.
abbrev pub moved : PictureValue → List ℕ → PictureValue → List ℕ
moved from bytes to =
    if is_group from.kind || is_group to.kind then fitted to.size bytes
    else (if is_alphanumeric to.kind then fitted to.size (text_of from bytes)
    else edited to (value_sent from.kind from bytes))

-- ZERO fits every item, the other figurative constants fit what is neither numeric nor edited.
abbrev pub may_fill : Figurative → PictureValue → Bool
may_fill figure to = is_zero figure || not (is_number to.kind)

abbrev pub MayFill : Figurative → PictureValue → Type 0
MayFill figure to = may_fill figure to ≡ true

-- What a receiver holds after a MOVE of a figurative constant: its byte in each place, but a numeric or edited item the value 0.
abbrev pub filled : Figurative → PictureValue → List ℕ
filled figure to = if is_number to.kind then edited to (pos 0) else replicate to.size (figure_byte figure)

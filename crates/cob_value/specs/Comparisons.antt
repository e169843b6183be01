-- How two operands compare, by their categories.
use Rattle.std.specs.Prelude.{ℕ, pos, Bool, true, ◌≡◌, ◌&&◌, ◌||◌, if◌then◌else◌, List, length, replicate}
use Rattle.std.specs.Ordering.{nat_cmp, int_cmp}
use Rattle.std.specs.declared.cmp.Ordering.{Ordering}
use Rattle.std.specs.Cmp.Lexicographic.{slice_cmp}
use Rattle.picture_rule.specs.Picture.{PictureValue}
use Rattle.cob_base.specs.declared.operands.Figurative.{Figurative}
use Rattle.cob_value.specs.Texts.{compared_texts}
use Rattle.cob_value.specs.Values.{value_of}
use Rattle.cob_value.specs.Figures.{is_numeric, is_zero, figure_byte}
use Rattle.cob_value.specs.Moves.{has_text, text_of}

-- Two numeric items may be compared, and any two that stand as texts.
abbrev pub may_compare : PictureValue → PictureValue → Bool
may_compare a b = (is_numeric a.kind && is_numeric b.kind) || (has_text a && has_text b)

abbrev pub MayCompare : PictureValue → PictureValue → Type 0
MayCompare a b = may_compare a b ≡ true

-- Two numeric items compare by value, others by their texts.
abbrev pub compared : PictureValue → List ℕ → PictureValue → List ℕ → Ordering
compared a x b y =
    if is_numeric a.kind && is_numeric b.kind then int_cmp (value_of a x) (value_of b y)
    else compared_texts (text_of a x) (text_of b y)

-- ZERO may be compared with every item, the other figurative constants with what stands as a text.
abbrev pub may_compare_fill : PictureValue → Figurative → Bool
may_compare_fill p figure = is_zero figure || has_text p

abbrev pub MayCompareFill : PictureValue → Figurative → Type 0
MayCompareFill p figure = may_compare_fill p figure ≡ true

-- ZERO is the number 0 beside a numeric item. Every other figurative constant, and ZERO beside other items, is its byte, repeated to
-- the length of the item's text.
abbrev pub compared_fill : PictureValue → List ℕ → Figurative → Ordering
compared_fill p bytes figure =
    if is_numeric p.kind && is_zero figure then int_cmp (value_of p bytes) (pos 0)
    else slice_cmp nat_cmp (text_of p bytes) (replicate (length (text_of p bytes)) (figure_byte figure))

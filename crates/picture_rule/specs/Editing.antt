-- What stands in each place of a numeric or edited item, and how its bytes are read back.
use Rattle.std.specs.Prelude.{◌≡◌, ℕ, ◌+◌, ◌-◌, ◌*◌, ◌/◌, ◌%◌, ◌^◌, Bool, false, List, [], ◌∷◌, ◌++◌, length, drop, take, map, filter, count_by, slice_index, nat_eq, nat_lt, ◌==◌, ◌&&◌, ◌||◌, if◌then◌else◌, codes, Option, Some, None, position, ℤ, pos, neg_ℤ, unsigned_abs, int_lt}
use Rattle.std.specs.List.{range_with_len}
use Rattle.std.specs.Char.{is_ascii_digit}
use Rattle.std.specs.Str.Parse.{digits_value}
use Rattle.picture_rule.specs.Picture.{PictureValue, IsPicture, is_among, is_digit_mark}
use Rattle.picture_rule.specs.declared.kind.PictureKind.{PictureKind}
use Rattle.picture_rule.specs.declared.kind.PictureKind.TheVariants.{Alphanumeric, Group, Numeric, Edited}
use Rattle.picture_rule.specs.declared.kind.SignPlace.{SignPlace}
use Rattle.picture_rule.specs.declared.kind.SignPlace.TheVariants.{Inside, Leading, Trailing}

-- a number of units with its sign; minus zero is zero
abbrev pub signed_number : Bool → ℕ → ℤ
signed_number negative units = if negative then neg_ℤ (pos units) else pos units

-- The units of the picture's last place that the item shows: the value's millionths without sign, cut there, and cut of high
-- digits.
abbrev pub shown_units : PictureValue → ℤ → ℕ
shown_units p value = (unsigned_abs value / 10 ^ (6 - p.decimals)) % 10 ^ p.digits

-- the sign that is shown is that of the value after both cuts
abbrev pub is_shown_negative : PictureValue → ℤ → Bool
is_shown_negative p value = int_lt value (pos 0) && nat_lt 0 (shown_units p value)

-- ---- numeric items

-- the digit at place k of n, the first place counted as 0
abbrev pub digit_at : ℕ → ℕ → ℕ → ℕ
digit_at n units k = 48 + (units / 10 ^ (n - 1 - k)) % 10

-- a negative sign inside raises the last digit's byte by 64
abbrev pub raised : ℕ → Bool → ℕ → ℕ
raised n negative k = if negative && (k + 1 == n) then 64 else 0

-- n digits, with a negative sign inside or without
abbrev pub digits_text : ℕ → ℕ → Bool → List ℕ
digits_text n units negative = map (λ k. digit_at n units k + raised n negative k) (range_with_len 0 n)

-- - or +
abbrev pub sign_mark : Bool → ℕ
sign_mark negative = if negative then 45 else 43

-- the digits and the sign of a numeric item, by where it keeps its sign
abbrev pub number_text : SignPlace → ℕ → ℕ → Bool → List ℕ
number_text Inside n units negative = digits_text n units negative
number_text Leading n units negative = sign_mark negative ∷ digits_text n units false
number_text Trailing n units negative = digits_text n units false ++ sign_mark negative ∷ []

-- ---- edited items, place by place

-- how many places for digits stand before and after a place
abbrev pub digits_before : List ℕ → ℕ → ℕ
digits_before marks i = count_by is_digit_mark (take i marks)

abbrev pub digits_after : List ℕ → ℕ → ℕ
digits_after marks i = count_by is_digit_mark (drop (i + 1) marks)

-- the number that the digits up to a place show
abbrev pub shown_before : List ℕ → ℕ → ℕ → ℕ
shown_before marks units i = units / 10 ^ digits_after marks i

-- whether only digits that may be suppressed stand before a place, and at least one
abbrev pub may_float : List ℕ → ℕ → Bool
may_float marks i = nat_lt 0 (digits_before marks i) && (count_by (nat_eq 57) (take i marks) == 0)

-- A place is suppressed where the digits up to it are all 0: that of a Z or *, and that of a comma which only suppressed digits
-- stand before.
abbrev pub is_suppressed : ℕ → ℕ → Bool → Bool
is_suppressed mark high floats = (high == 0) && (is_among (codes "Z*") mark || ((mark == 44) && floats))

-- what stands in a suppressed place
abbrev pub fill_of : List ℕ → ℕ
fill_of marks = if is_among marks 42 then 42 else 32

-- What stands in a place that is not suppressed: a digit, a sign by the value's, CR and DB only where it is negative, and other
-- marks as they are.
abbrev pub shown_mark : ℕ → ℕ → Bool → ℕ
shown_mark mark high negative =
    if is_digit_mark mark then 48 + high % 10
    else (if mark == 43 then sign_mark negative
    else (if mark == 45 then (if negative then 45 else 32)
    else (if is_among (codes "CRDB") mark then (if negative then mark else 32)
    else mark)))

-- what stands in a place
abbrev pub place_byte : ℕ → ℕ → Bool → ℕ → Bool → ℕ
place_byte mark high floats fill negative = if is_suppressed mark high floats then fill else shown_mark mark high negative

-- the byte in place i
abbrev pub byte_at : List ℕ → ℕ → Bool → ℕ → ℕ
byte_at marks units negative i = place_byte (slice_index marks i) (shown_before marks units i) (may_float marks i) (fill_of marks) negative

-- Zero under a picture without a 9, and so without a point, fills every place.
abbrev pub is_all_filled : List ℕ → ℕ → Bool
is_all_filled marks units = (units == 0) && (count_by (nat_eq 57) marks == 0)

-- the bytes of all places
abbrev pub edited_marks : List ℕ → ℕ → Bool → List ℕ
edited_marks marks units negative =
    map (λ i. if is_all_filled marks units then fill_of marks else byte_at marks units negative i) (range_with_len 0 (length marks))

-- The bytes of a numeric or edited item that holds a value. An unsigned item holds its digits alone.
abbrev pub edited_as : PictureKind → PictureValue → ℤ → List ℕ
edited_as Alphanumeric p value = []
edited_as Group p value = []
edited_as Numeric p value = number_text p.separate p.digits (shown_units p value) (p.signed && is_shown_negative p value)
edited_as Edited p value = edited_marks p.marks (shown_units p value) (is_shown_negative p value)

-- the bytes of an item of this picture
abbrev pub edited : PictureValue → ℤ → List ℕ
edited p value = edited_as p.kind p value

-- a numeric or edited item
abbrev pub IsNumber : PictureKind → Type 0
IsNumber Alphanumeric = ⊥
IsNumber Group = ⊥
IsNumber Numeric = Unit {0}
IsNumber Edited = Unit {0}

-- ---- reading back

-- the number that the digits among some bytes write, whatever stands between them
abbrev pub number_in : List ℕ → ℕ
number_in bytes = digits_value 10 (filter is_ascii_digit bytes)

-- the first six digits among some bytes, as millionths
abbrev pub millionths_in : List ℕ → ℕ
millionths_in bytes = let digits = take 6 (filter is_ascii_digit bytes) in digits_value 10 digits * 10 ^ (6 - length digits)

-- the two bytes stand somewhere, side by side
abbrev pub has_pair : ℕ → ℕ → List ℕ → Bool
has_pair a b [] = false
has_pair a b (x ∷ []) = false
has_pair a b (x ∷ (y ∷ bytes)) = ((x == a) && (y == b)) || has_pair a b (y ∷ bytes)

-- a minus, CR or DB stands somewhere
abbrev pub is_minus : List ℕ → Bool
is_minus bytes = is_among bytes 45 || (has_pair 67 82 bytes || has_pair 68 66 bytes)

-- The millionths without sign: before the first point the whole part, after it the decimals; without a point the digits count
-- units of the picture's last place.
abbrev pub units_at : ℕ → List ℕ → Option ℕ → ℕ
units_at decimals bytes None = number_in bytes * 10 ^ (6 - decimals)
units_at decimals bytes (Some point) = number_in (take point bytes) * 10 ^ 6 + millionths_in (drop (point + 1) bytes)

-- the same, by the first point
abbrev pub units_by : ℕ → List ℕ → ℕ
units_by decimals bytes = units_at decimals bytes (position (nat_eq 46) bytes)

-- the value that some bytes show
abbrev pub unedited : PictureValue → List ℕ → ℤ
unedited p bytes = signed_number (is_minus bytes) (units_by p.decimals bytes)

-- ---- reading an edited text back

-- a + or -, CR or DB is among the marks
abbrev pub shows_sign : List ℕ → Bool
shows_sign marks = is_among marks 43 || is_minus marks

-- The value that an edited item shows: cut, and without its sign where the picture has none.
abbrev pub shown_value : PictureValue → ℤ → ℤ
shown_value p value = signed_number (shows_sign p.marks && is_shown_negative p value) (shown_units p value * 10 ^ (6 - p.decimals))

-- An edited text reads back as the value that it shows.
abbrev pub ReadsBack : Type 0
ReadsBack = (p : PictureValue) (value : ℤ) → p.kind ≡ Edited → IsPicture p → unedited p (edited p value) ≡ shown_value p value

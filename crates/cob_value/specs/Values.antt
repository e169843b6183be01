-- The value that an item's bytes have, in millionths.
use Rattle.std.specs.Prelude.{ℕ, ◌+◌, ◌-◌, ◌*◌, ◌/◌, ◌^◌, ℤ, pos, unsigned_abs, Bool, false, ◌==◌, ◌&&◌, nat_lt, if◌then◌else◌, List, length, drop, map, slice_index}
use Rattle.std.specs.List.{range_with_len}
use Rattle.std.specs.Char.{is_ascii_digit}
use Rattle.std.specs.Str.Parse.{digits_value}
use Rattle.picture_rule.specs.Picture.{PictureValue}
use Rattle.picture_rule.specs.Editing.{signed_number, edited}
use Rattle.picture_rule.specs.declared.kind.SignPlace.{SignPlace}
use Rattle.picture_rule.specs.declared.kind.SignPlace.TheVariants.{Inside, Leading, Trailing}

-- ---- numeric items

-- a digit with a negative sign inside: its byte plus 64
abbrev pub is_raised : ℕ → Bool
is_raised byte = is_ascii_digit (byte - 64)

-- the place of the first digit
abbrev pub first_digit : SignPlace → ℕ
first_digit Inside = 0
first_digit Leading = 1
first_digit Trailing = 0

-- the last digit's byte keeps the sign of a signed item without a separate sign
abbrev pub keeps_sign : SignPlace → Bool → Bool
keeps_sign Inside signed = signed
keeps_sign Leading signed = false
keeps_sign Trailing signed = false

-- the digit that a byte stands for, as its own byte: what is no digit counts as 0
abbrev pub digit_in : ℕ → Bool → ℕ
digit_in byte may_be_raised =
    if is_ascii_digit byte then byte else (if may_be_raised && is_raised byte then byte - 64 else 48)

-- the digits of a numeric item, without its sign
abbrev pub digits_of : PictureValue → List ℕ → List ℕ
digits_of p bytes =
    map (λ k. digit_in (slice_index bytes (first_digit p.separate + k)) (keeps_sign p.separate p.signed && (k + 1 == p.digits))) (range_with_len 0 p.digits)

-- Only a raised last digit or a separate minus is a negative sign.
abbrev pub is_minus_kept : SignPlace → Bool → ℕ → List ℕ → Bool
is_minus_kept Inside signed digits bytes = signed && is_raised (slice_index bytes (digits - 1))
is_minus_kept Leading signed digits bytes = slice_index bytes 0 == 45
is_minus_kept Trailing signed digits bytes = slice_index bytes digits == 45

-- The value of a numeric item: its digits count units of its last place.
abbrev pub value_of : PictureValue → List ℕ → ℤ
value_of p bytes =
    signed_number (is_minus_kept p.separate p.signed p.digits bytes) (digits_value 10 (digits_of p bytes) * 10 ^ (6 - p.decimals))

-- the whole number that the last 18 bytes of a text write
abbrev pub text_value : List ℕ → ℤ
text_value bytes = pos (digits_value 10 (map (λ byte. digit_in byte false) (drop (length bytes - 18) bytes)) * 10 ^ 6)

-- ---- storing

-- the whole part of a value fits an item
abbrev pub holds : PictureValue → ℤ → Bool
holds p value = nat_lt (unsigned_abs value / 10 ^ 6) (10 ^ (p.digits - p.decimals))

-- An item that a value is stored in. One that cannot hold its whole part stays as it is.
abbrev pub stored : PictureValue → ℤ → List ℕ → List ℕ
stored p value old = if holds p value then edited p value else old

-- The digits and the value of a numeric item.
use Rattle.std.proofs.Common.{◌≡◌, ℕ, ◌+◌, ◌-◌, ◌*◌, ◌^◌, ◌<◌, ◌≤◌, Bool, List, length, take, get_or, set, map, ap, subst, ◌∙◌, arith, length-set}
use Rattle.std.specs.Prelude.{◌==◌, ◌&&◌, ℤ}
use Rattle.std.specs.List.{range_with_len}
use Rattle.std.specs.Str.Parse.{digits_value}
use Rattle.std.proofs.lemmas.List.{get_or-take, length-take-le}
use Rattle.std.proofs.lemmas.List.Edits.{fill_by_more}
use Rattle.std.proofs.lemmas.List.FromFn.{fill_by_all}
use Rattle.picture_rule.specs.Picture.{PictureValue}
use Rattle.picture_rule.specs.Editing.{signed_number}
use Rattle.cob_value.specs.Values.{digit_in, first_digit, keeps_sign, digits_of, is_minus_kept, value_of}
use Rattle.cob_value.proofs.Digits.{counted, counted_same}

-- the digit in a place of an item whose digits begin there
abbrev pub digit_at : List ℕ → ℕ → Bool → ℕ → ℕ → ℕ
digit_at bytes first inside count k = digit_in (get_or bytes (first + k) 0) (inside && (k + 1 == count))

-- the first digits so far are those of the item
pub record Copied (bytes digits : List ℕ) (first : ℕ) (inside : Bool) (count i : ℕ) : Type 0 where
  pub long : length digits ≡ 18
  pub places : (k : ℕ) → k < i → get_or digits k 0 ≡ digit_at bytes first inside count k

pub copied_more : (bytes digits : List ℕ) (first : ℕ) (inside : Bool) (count i digit : ℕ) → Copied bytes digits first inside count i → i < 18 → digit ≡ digit_at bytes first inside count i
    → Copied bytes (set digits i digit) first inside count (i + 1)
copied_more bytes digits first inside count i digit a h e = record {
  long = length-set digits i digit ∙ a.long;
  places = rw e (fill_by_more (digit_at bytes first inside count) digits i 0 (omega (arith, a.long)) a.places);
}

pub digits_are : (p : PictureValue) (bytes digits : List ℕ) (first : ℕ) (inside : Bool) (count i : ℕ) → Copied bytes digits first inside count i → count ≤ i → count ≤ 18
    → count ≡ p.digits → first ≡ first_digit p.separate → inside ≡ keeps_sign p.separate p.signed → take p.digits digits ≡ digits_of p bytes
digits_are p bytes digits first inside count i a l few n f s =
    let all : take count digits ≡ map (digit_at bytes first inside count) (range_with_len 0 count) =
    fill_by_all (digit_at bytes first inside count) (take count digits) count 0 (length-take-le count digits (omega (arith, a.long)))
    (λ k h. get_or-take count digits k 0 h ∙ a.places k (omega arith)) in
    let by_sign = subst (λ b. take count digits ≡ map (digit_at bytes first b count) (range_with_len 0 count)) s all in
    let by_first = subst (λ b. take count digits ≡ map (digit_at bytes b (keeps_sign p.separate p.signed) count) (range_with_len 0 count)) f by_sign in
    subst (λ c. take c digits ≡ map (digit_at bytes (first_digit p.separate) (keeps_sign p.separate p.signed) c) (range_with_len 0 c)) n by_first

pub loaded : (p : PictureValue) (bytes digits : List ℕ) (count number power : ℕ) (negative : Bool) (result : ℤ) → take p.digits digits ≡ digits_of p bytes → count ≡ p.digits
    → number ≡ digits_value 10 (counted (take count digits)) → power ≡ 10 ^ (6 - p.decimals) → negative ≡ is_minus_kept p.separate p.signed p.digits bytes → result ≡ signed_number negative (number * power)
    → result ≡ value_of p bytes
loaded p bytes digits count number power negative result d n u t s r =
    let minus = is_minus_kept p.separate p.signed p.digits bytes in
    let same : counted (digits_of p bytes) ≡ digits_of p bytes =
    counted_same (λ k. get_or bytes (first_digit p.separate + k) 0) (λ k. keeps_sign p.separate p.signed && (k + 1 == p.digits)) (range_with_len 0 p.digits) in
    let units : number ≡ digits_value 10 (digits_of p bytes) =
    u ∙ ap (λ c. digits_value 10 (counted (take c digits))) n ∙ ap (λ ds. digits_value 10 (counted ds)) d ∙ ap (digits_value 10) same in
    r ∙ ap (λ b. signed_number b (number * power)) s ∙ ap (λ x. signed_number minus (x * power)) units ∙ ap (λ x. signed_number minus (digits_value 10 (digits_of p bytes) * x)) t

-- The numbers that digits among bytes write, one byte after another.
use Rattle.std.proofs.Common.{◌≡◌, ℕ, ◌+◌, ◌-◌, ◌*◌, ◌^◌, ◌<◌, ◌≤◌, inl, inr, true, false, List, [], ◌∷◌, ◌++◌, length, take, sym, ap, subst, ◌∙◌, arith, length-append, length-take, append-nil, add-one}
use Rattle.std.specs.Prelude.{filter}
use Rattle.std.specs.Char.{is_ascii_digit, digit_value}
use Rattle.std.specs.Str.Parse.{digits_value}
use Rattle.std.proofs.lemmas.Bool.{cases_Bool, cond-true, cond-false}
use Rattle.std.proofs.lemmas.List.{take_all, take-append-le}
use Rattle.std.proofs.lemmas.List.Elements.{filter-append}
use Rattle.std.proofs.lemmas.Int.Digits.{digits_value_push}
use Rattle.std.proofs.lemmas.Str.{digit_value_digit}
use Rattle.std.proofs.lemmas.Bool.Decides.{nat_tests}
use Rattle.std.proofs.Math.Nat.{mul-le-mul_left}
use Rattle.picture_rule.specs.Editing.{number_in}
use Rattle.picture_rule.proofs.Places.{tens_le}

-- the digits among the bytes so far
abbrev pub digits_in : List ℕ → List ℕ
digits_in bytes = filter is_ascii_digit bytes

pub digit_range : (c : ℕ) → is_ascii_digit c ≡ true → (48 ≤ c) × (c ≤ 57) × (digit_value c + 48 ≡ c)
digit_range c h = let low : 48 ≤ c = grind (arith, nat_tests, h) in let high : c ≤ 57 = grind (arith, nat_tests, h) in (low, high, digit_value_digit c (low, high))

-- the first six of these digits, and how many they are
pub record FirstSix (digits : List ℕ) (number places : ℕ) : Type 0 where
  pub value : number ≡ digits_value 10 (take 6 digits)
  pub count : places ≡ length (take 6 digits)
  pub within : number < 10 ^ places

abbrev pub Places : List ℕ → ℕ → ℕ → Type 0
Places bytes number places = FirstSix (digits_in bytes) number places

one_digit : (c : ℕ) → is_ascii_digit c ≡ true → filter is_ascii_digit (c ∷ []) ≡ c ∷ []
one_digit c h = cond-true _ _ _ h

no_digit : (c : ℕ) → is_ascii_digit c ≡ false → filter is_ascii_digit (c ∷ []) ≡ []
no_digit c h = cond-false _ _ _ h

pub digits_yes : (bytes : List ℕ) (c : ℕ) → is_ascii_digit c ≡ true → digits_in (bytes ++ c ∷ []) ≡ digits_in bytes ++ c ∷ []
digits_yes bytes c h = filter-append is_ascii_digit bytes (c ∷ []) ∙ ap (λ d. digits_in bytes ++ d) (one_digit c h)

pub digits_no : (bytes : List ℕ) (c : ℕ) → is_ascii_digit c ≡ false → digits_in (bytes ++ c ∷ []) ≡ digits_in bytes
digits_no bytes c h = filter-append is_ascii_digit bytes (c ∷ []) ∙ ap (λ d. digits_in bytes ++ d) (no_digit c h) ∙ append-nil _

-- a number so far: what the digits write, and its bound
pub record Amount (bytes : List ℕ) (number i : ℕ) : Type 0 where
  pub value : number ≡ number_in bytes
  pub within : number < 10 ^ i

pub amount_yes : (bytes : List ℕ) (number i c d : ℕ) → Amount bytes number i → is_ascii_digit c ≡ true → d ≡ c - 48 → Amount (bytes ++ c ∷ []) (number * 10 + d) (i + 1)
amount_yes bytes number i c d a h e =
    let r = digit_range c h in let small : d ≡ digit_value c = omega (arith, r.0, r.2) in
    record {
      value = ap (λ n. n * 10 + d) a.value ∙ ap (λ x. number_in bytes * 10 + x) small ∙ sym (ap (digits_value 10) (digits_yes bytes c h) ∙ digits_value_push 10 (digits_in bytes) c);
      within = let nine : d ≤ 9 = omega (arith, r.1) in rw (add-one i) (omega (arith, a.within));
    }

pub amount_no : (bytes : List ℕ) (number i c : ℕ) → Amount bytes number i → is_ascii_digit c ≡ false → Amount (bytes ++ c ∷ []) number (i + 1)
amount_no bytes number i c a h = record { value = a.value ∙ sym (ap (digits_value 10) (digits_no bytes c h)); within = rw (add-one i) (omega (arith, a.within)) }

one_more : (digits : List ℕ) (number places c d : ℕ) → FirstSix digits number places → places < 6 → d ≡ digit_value c → d ≤ 9 → FirstSix (digits ++ c ∷ []) (number * 10 + d) (places + 1)
one_more digits number places c d p h e nine =
    let few : length digits ≡ places = omega (arith, p.count, length-take 6 digits) in
    let whole : take 6 digits ≡ digits = take_all 6 digits (omega arith) in
    let more : take 6 (digits ++ c ∷ []) ≡ digits ++ c ∷ [] = take_all 6 (digits ++ c ∷ []) (omega (arith, length-append digits (c ∷ []))) in
    record {
      value = ap (λ n. n * 10 + d) (p.value ∙ ap (digits_value 10) whole) ∙ ap (λ x. digits_value 10 digits * 10 + x) e ∙ sym (ap (digits_value 10) more ∙ digits_value_push 10 digits c);
      count = omega (arith, ap length more, length-append digits (c ∷ []));
      within = rw (add-one places) (omega (arith, p.within));
    }

no_more : (digits : List ℕ) (number places c : ℕ) → FirstSix digits number places → 6 ≤ places → FirstSix (digits ++ c ∷ []) number places
no_more digits number places c p h =
    let same : take 6 (digits ++ c ∷ []) ≡ take 6 digits = take-append-le 6 digits (c ∷ []) (omega (arith, p.count, length-take 6 digits)) in
    record { value = p.value ∙ ap (digits_value 10) (sym same); count = p.count ∙ ap length (sym same); within = p.within }

pub places_yes : (bytes : List ℕ) (number places c d : ℕ) → Places bytes number places → places < 6 → is_ascii_digit c ≡ true → d ≡ c - 48 → Places (bytes ++ c ∷ []) (number * 10 + d) (places + 1)
places_yes bytes number places c d p h t e =
    let r = digit_range c t in
    subst (λ ds. FirstSix ds (number * 10 + d) (places + 1)) (sym (digits_yes bytes c t)) (one_more (digits_in bytes) number places c d p h (omega (arith, r.0, r.2)) (omega (arith, r.1)))

pub places_no : (bytes : List ℕ) (number places c : ℕ) → Places bytes number places → is_ascii_digit c ≡ false → Places (bytes ++ c ∷ []) number places
places_no bytes number places c p h = subst (λ ds. FirstSix ds number places) (sym (digits_no bytes c h)) p

pub places_full : (bytes : List ℕ) (number places c : ℕ) → Places bytes number places → 6 ≤ places → Places (bytes ++ c ∷ []) number places
places_full bytes number places c p h = elim (cases_Bool (is_ascii_digit c)) [
  | inl t ↦ subst (λ ds. FirstSix ds number places) (sym (digits_yes bytes c t)) (no_more (digits_in bytes) number places c p h)
  | inr f ↦ places_no bytes number places c p f
]

-- a number of thirty digits at most, in millionths
pub times_tens : (number digits tens exponent : ℕ) → number < 10 ^ digits → digits ≤ 30 → tens ≡ 10 ^ (6 - exponent) → number * tens < 10 ^ 38
times_tens number digits tens exponent h few e =
    let a : number < 10 ^ 30 = omega (arith, h, tens_le digits 30 few) in
    let b : tens ≤ 10 ^ 6 = rw e (tens_le (6 - exponent) 6 (omega arith)) in
    let d : number * tens ≤ number * 10 ^ 6 = mul-le-mul_left number b in
    omega (arith, a, d)

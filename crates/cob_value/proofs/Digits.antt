-- The number that bytes write.
use Rattle.std.proofs.Common.{◌≡◌, ℕ, zero, suc, ◌+◌, ◌-◌, ◌*◌, ◌^◌, ◌<◌, ◌≤◌, inl, inr, false, true, Bool, cond, List, [], ◌∷◌, ◌++◌, map, refl, sym, ap, ◌∙◌, arith, add-one}
use Rattle.std.specs.Prelude.{◌&&◌}
use Rattle.std.specs.Char.{is_ascii_digit, digit_value}
use Rattle.std.specs.Str.Parse.{digits_value}
use Rattle.std.proofs.lemmas.Bool.{cases_Bool, cases_lt, cond-true, cond-false}
use Rattle.std.proofs.lemmas.Bool.Decides.{nat_tests}
use Rattle.std.proofs.lemmas.Str.{digit_value_digit}
use Rattle.std.proofs.lemmas.Int.Digits.{digits_value_push}
use Rattle.std.proofs.lemmas.List.{map-append}
use Rattle.cob_value.specs.Values.{digit_in, is_raised}

-- ten to a higher power is not less
pub tens_le : (m n : ℕ) → m ≤ n → 10 ^ m ≤ 10 ^ n
tens_le m zero h = let e : m ≡ 0 = omega arith in rw e (omega arith)
tens_le m (suc n) h = elim (cases_lt m (suc n)) [
  | inl less ↦ (let step : 10 ^ n ≤ 10 ^ suc n = omega arith in omega (arith, tens_le m n (omega arith), step))
  | inr past ↦ (let e : m ≡ suc n = omega arith in rw e (omega arith))
]

-- a digit, as its byte
pub record IsDigit (byte : ℕ) : Type 0 where
  pub least : 48 ≤ byte
  pub most : byte ≤ 57
  pub value : digit_value byte + 48 ≡ byte

digit : (byte : ℕ) → is_ascii_digit byte ≡ true → IsDigit byte
digit byte h =
    let low : 48 ≤ byte = grind (arith, nat_tests, h) in let high : byte ≤ 57 = grind (arith, nat_tests, h) in
    record { least = low; most = high; value = digit_value_digit byte (low, high) }

and_right : (a b : Bool) → a && b ≡ true → b ≡ true
and_right true b h = h
and_right false b h = cc

-- what a byte stands for is a digit
pub digit_is : (byte : ℕ) (raised : Bool) → IsDigit (digit_in byte raised)
digit_is byte raised = elim (cases_Bool (is_ascii_digit byte)) [
  | inl is ↦ rw (cond-true {A = ℕ} (is_ascii_digit byte) byte (cond (raised && is_raised byte) (byte - 64) 48) is) (digit byte is)
  | inr other ↦ rw (cond-false {A = ℕ} (is_ascii_digit byte) byte (cond (raised && is_raised byte) (byte - 64) 48) other) (elim (cases_Bool (raised && is_raised byte)) [
    | inl both ↦ rw (cond-true {A = ℕ} (raised && is_raised byte) (byte - 64) 48 both) (digit (byte - 64) (and_right raised (is_raised byte) both))
    | inr neither ↦ rw (cond-false {A = ℕ} (raised && is_raised byte) (byte - 64) 48 neither) (digit 48 refl)
  ])
]

-- the digits that bytes stand for
abbrev pub counted : List ℕ → List ℕ
counted bytes = map (λ byte. digit_in byte false) bytes

-- a number so far: what the bytes write, and its bound
pub record Amount (bytes : List ℕ) (number i : ℕ) : Type 0 where
  pub value : number ≡ digits_value 10 (counted bytes)
  pub within : number < 10 ^ i

pub amount_more : (bytes : List ℕ) (number i byte d : ℕ) → Amount bytes number i → d + 48 ≡ digit_in byte false → Amount (bytes ++ byte ∷ []) (number * 10 + d) (i + 1)
amount_more bytes number i byte d a e =
    let is = digit_is byte false in let same : d ≡ digit_value (digit_in byte false) = omega (arith, is.value, e) in
    record {
      value = ap (λ n. n * 10 + d) a.value ∙ ap (λ x. digits_value 10 (counted bytes) * 10 + x) same ∙ sym (ap (digits_value 10) (map-append (λ b. digit_in b false) bytes (byte ∷ [])) ∙ digits_value_push 10 (counted bytes) (digit_in byte false));
      within = let nine : d ≤ 9 = omega (arith, is.most, e) in rw (add-one i) (omega (arith, a.within));
    }

digit_test : (byte : ℕ) → IsDigit byte → is_ascii_digit byte ≡ true
digit_test byte d = let low : 48 ≤ byte = d.least in let high : byte ≤ 57 = d.most in grind (arith, nat_tests, low, high)

-- a digit stands for itself
pub digit_same : (byte : ℕ) → IsDigit byte → digit_in byte false ≡ byte
digit_same byte d = cond-true {A = ℕ} (is_ascii_digit byte) byte (cond false (byte - 64) 48) (digit_test byte d)

-- so the digits of an item are counted as they are
pub counted_same : (f : ℕ → ℕ) (raised : ℕ → Bool) (ks : List ℕ) → counted (map (λ k. digit_in (f k) (raised k)) ks) ≡ map (λ k. digit_in (f k) (raised k)) ks
counted_same f raised [] = refl
counted_same f raised (k ∷ ks) =
    ap (λ d. d ∷ counted (map (λ j. digit_in (f j) (raised j)) ks)) (digit_same (digit_in (f k) (raised k)) (digit_is (f k) (raised k)))
    ∙ ap (λ ds. digit_in (f k) (raised k) ∷ ds) (counted_same f raised ks)

-- Filling places one after another.
use Rattle.std.proofs.Common.{◌≡◌, ℕ, zero, suc, ◌+◌, ◌-◌, ◌/◌, ◌^◌, ◌<◌, ◌≤◌, Bool, true, false, cond, inl, inr, List, [], ◌∷◌, ◌++◌, length, take, drop, get_or, set, refl, sym, ap, ◌∙◌, arith, nat_eq, append-nil, length-drop}
use Rattle.std.specs.Prelude.{count_by, if◌then◌else◌, nat_lt, ◌==◌, ◌&&◌}
use mir.Val.{bool_byte}
use borrow.Rule.Slice.PartMut.{put_mid}
use Rattle.std.proofs.lemmas.Bool.{cases_order, cases_Bool, cond-true, cond-false}
use Rattle.std.proofs.lemmas.List.{take-append-drop}
use Rattle.std.proofs.lemmas.List.Edits.{fill_by_more}
use Rattle.std.proofs.lemmas.List.FromFn.{length-map-range_with_len}
use Rattle.std.proofs.Math.Seq.{set-append_seam}
use Rattle.std.proofs.lemmas.List.Sums.{count_by_more_yes, count_by_more_no, sum_by-append}
use Rattle.picture_rule.specs.Picture.{is_digit_mark}
use Rattle.picture_rule.specs.Editing.{digit_at, raised, digits_text, digits_after, shown_before, may_float, fill_of, place_byte, byte_at}

-- ten to some power is not 0
pub tens : (n : ℕ) → 0 < 10 ^ n
tens zero = omega arith
tens (suc n) = omega (arith, tens n)

pub tens_le : (m n : ℕ) → m ≤ n → 10 ^ m ≤ 10 ^ n
tens_le m zero h = let e : m ≡ 0 = omega arith in rw e (omega arith)
tens_le m (suc n) h = elim (cases_order m (suc n)) [
  | inl e ↦ rw e (omega arith)
  | inr o ↦ elim o [ inl l ↦ (let less : m ≤ n = omega arith in let step : 10 ^ n ≤ 10 ^ suc n = omega arith in omega (arith, tens_le m n less, step)) | inr g ↦ absurd (omega arith) ]
]

count_more : (p : ℕ → Bool) (marks : List ℕ) (i : ℕ) → i < length marks → count_by p (take (i + 1) marks) ≡ count_by p (take i marks) + (if p (get_or marks i 0) then 1 else 0)
count_more p marks i h = elim (cases_Bool (p (get_or marks i 0))) [
  | inl e ↦ (let one : (if p (get_or marks i 0) then 1 else 0) ≡ 1 = cond-true {A = ℕ} _ 1 0 e in omega (arith, count_by_more_yes p marks i 0 h e, one))
  | inr e ↦ (let none : (if p (get_or marks i 0) then 1 else 0) ≡ 0 = cond-false {A = ℕ} _ 1 0 e in omega (arith, count_by_more_no p marks i 0 h e, none))
]

count_split : (p : ℕ → Bool) (marks : List ℕ) (i : ℕ) → count_by p (take i marks) + count_by p (drop i marks) ≡ count_by p marks
count_split p marks i = sym (sum_by-append (λ x. cond (p x) 1 0) (take i marks) (drop i marks)) ∙ ap (λ m. count_by p m) (take-append-drop i marks)

pub bit : (b : Bool) (n : ℕ) → n ≡ bool_byte b → n ≡ (if b then 1 else 0)
bit true n e = e
bit false n e = e

-- the digits after a place are those that are neither before it nor in it
pub record After (marks : List ℕ) (i before here : ℕ) : Type 0 where
  pub fits : before + here ≤ count_by is_digit_mark marks
  pub is : count_by is_digit_mark marks - before - here ≡ digits_after marks i

pub after_is : (marks : List ℕ) (i before here : ℕ) → i < length marks → before ≡ count_by is_digit_mark (take i marks) → here ≡ (if is_digit_mark (get_or marks i 0) then 1 else 0) → After marks i before here
after_is marks i before here h e f =
    let more = count_more is_digit_mark marks i h in let all = count_split is_digit_mark marks (i + 1) in
    record { fits = omega (arith, more, all, e, f); is = omega (arith, more, all, e, f) }

-- The places so far are filled, and the digits and 9s among them counted.
pub record Filled (marks out : List ℕ) (units : ℕ) (negative : Bool) (i before nines : ℕ) : Type 0 where
  pub places : (k : ℕ) → k < i → get_or out k 0 ≡ byte_at marks units negative k
  pub digits : before ≡ count_by is_digit_mark (take i marks)
  pub of_nines : nines ≡ count_by (nat_eq 57) (take i marks)

pub filled_more : (marks out : List ℕ) (units : ℕ) (negative : Bool) (i before nines here nine byte : ℕ) → Filled marks out units negative i before nines → i < length out
    → i < length marks → here ≡ (if is_digit_mark (get_or marks i 0) then 1 else 0) → nine ≡ (if nat_eq 57 (get_or marks i 0) then 1 else 0) → byte ≡ byte_at marks units negative i
    → Filled marks (set out i byte) units negative (i + 1) (before + here) (nines + nine)
filled_more marks out units negative i before nines here nine byte f ho hm e g b = record {
  places = rw b (fill_by_more (byte_at marks units negative) out i 0 ho f.places);
  digits = omega (arith, f.digits, e, count_more is_digit_mark marks i hm);
  of_nines = omega (arith, f.of_nines, g, count_more (nat_eq 57) marks i hm);
}

pub byte_is : (marks : List ℕ) (units : ℕ) (negative : Bool) (i before nines here high fill : ℕ) (floats : Bool) (byte : ℕ) → i < length marks → before ≡ count_by is_digit_mark (take i marks) → nines ≡ count_by (nat_eq 57) (take i marks)
    → here ≡ (if is_digit_mark (get_or marks i 0) then 1 else 0) → high ≡ units / 10 ^ (count_by is_digit_mark marks - before - here) → floats ≡ (nat_lt 0 before && (nines == 0)) → fill ≡ fill_of marks
    → byte ≡ place_byte (get_or marks i 0) high floats fill negative → byte ≡ byte_at marks units negative i
byte_is marks units negative i before nines here high fill floats byte h e n f g t l b =
    let high_is : high ≡ shown_before marks units i = g ∙ ap (λ k. units / 10 ^ k) (after_is marks i before here h e f).is in
    let floats_is : floats ≡ may_float marks i = rw (← e, ← n) t in
    b ∙ ap (λ x. place_byte (get_or marks i 0) x floats fill negative) high_is ∙ ap (λ x. place_byte (get_or marks i 0) (shown_before marks units i) x fill negative) floats_is
    ∙ ap (λ x. place_byte (get_or marks i 0) (shown_before marks units i) (may_float marks i) x negative) l

-- ---- a sign before or after the digits

no_more : (xs : List ℕ) (k : ℕ) → length xs ≤ k → drop k xs ≡ []
no_more xs k h = go (drop k xs) (omega (arith, length-drop k xs, h))
  where
    go : (ys : List ℕ) → length ys ≡ 0 → ys ≡ []
    go [] e = refl
    go (y ∷ ys) e = absurd (omega arith)

pub lead : (out : List ℕ) (sign : ℕ) (ys : List ℕ) (digits : ℕ) → length out ≡ digits + 1 → put_mid 1 (length (set out 0 sign) - 1) (set out 0 sign) ys ≡ sign ∷ ys
lead [] sign ys digits h = absurd (omega arith)
lead (x ∷ out) sign ys digits h = ap (λ r. sign ∷ r) (ap (λ r. ys ++ r) (no_more out (suc (length out) - 1) (omega arith)) ∙ append-nil ys)

one_left : (xs : List ℕ) → length xs ≡ 1 → (y : ℕ) × (xs ≡ y ∷ [])
one_left [] h = absurd (omega arith)
one_left (y ∷ []) h = (y, refl)
one_left (y ∷ z ∷ xs) h = absurd (omega arith)

pub trail : (out : List ℕ) (sign : ℕ) (ys : List ℕ) (digits : ℕ) → length out ≡ digits + 1 → length ys ≡ digits → set (ys ++ drop digits out) digits sign ≡ ys ++ sign ∷ []
trail out sign ys digits h l =
    let last = one_left (drop digits out) (omega (arith, length-drop digits out)) in
    ap (λ d. set (ys ++ drop digits out) d sign) (sym l) ∙ ap (λ d. set (ys ++ d) (length ys) sign) last.1 ∙ set-append_seam ys last.0 [] sign

pub digits_length : (n units : ℕ) (negative : Bool) → length (digits_text n units negative) ≡ n
digits_length n units negative = length-map-range_with_len (λ k. digit_at n units k + raised n negative k) 0 n

-- What the byte in a place of an edited item is, by its mark.
use Rattle.std.proofs.Common.{◌≡◌, ℕ, ◌+◌, ◌%◌, ◌<◌, ◌≤◌, ◌⊎◌, inl, inr, Bool, true, false, refl, sym, subst, ◌∙◌, arith, nat_eq}
use Rattle.std.specs.Prelude.{codes, ◌&&◌, ◌||◌, ◌==◌, if◌then◌else◌}
use Rattle.std.specs.Char.{is_ascii_digit, digit_value}
use Rattle.std.proofs.lemmas.Bool.{false≢true, ne_eqb, eqb-true}
use Rattle.std.proofs.lemmas.Bool.Decides.{nat_tests}
use Rattle.std.proofs.lemmas.Str.{digit_value_digit}
use Rattle.picture_rule.specs.Picture.{is_among, is_digit_mark}
use Rattle.picture_rule.specs.Editing.{place_byte, shown_mark}
use Rattle.picture_rule.proofs.Apart.{Among, edited_marks}

abbrev pub IsFill : ℕ → Type 0
IsFill fill = (fill ≡ 32) ⊎ (fill ≡ 42)

-- a place for a digit shows it, or its digit and all before it are 0
abbrev pub DigitOr : ℕ → ℕ → Type 0
DigitOr h b = ((is_ascii_digit b ≡ true) × (digit_value b ≡ h % 10)) ⊎ ((is_ascii_digit b ≡ false) × (h ≡ 0))

pub record Byte (x h : ℕ) (neg : Bool) (b : ℕ) : Type 0 where
  pub digit : is_digit_mark x ≡ true → DigitOr h b
  pub other : is_digit_mark x ≡ false → is_ascii_digit b ≡ false
  pub point : nat_eq 46 b ≡ nat_eq 46 x
  pub minus : nat_eq b 45 ≡ ((nat_eq x 43 || nat_eq x 45) && neg)
  pub c : nat_eq b 67 ≡ (nat_eq x 67 && neg)
  pub r : nat_eq b 82 ≡ (nat_eq x 82 && neg)
  pub d : nat_eq b 68 ≡ (nat_eq x 68 && neg)
  pub b' : nat_eq b 66 ≡ (nat_eq x 66 && neg)

pub shown_digit : (h : ℕ) → (is_ascii_digit (48 + h % 10) ≡ true) × (digit_value (48 + h % 10) ≡ h % 10)
shown_digit h =
    let below : h % 10 < 10 = omega arith in
    let value = digit_value_digit (48 + h % 10) (omega arith, omega arith) in
    (grind (arith, nat_tests, below), omega (arith, value))

no_digit_eq : (h v : ℕ) → v ≤ 47 → nat_eq (48 + h % 10) v ≡ false
no_digit_eq h v l = ne_eqb _ _ (λ e. omega (arith, e))

no_digit_up : (h v : ℕ) → 58 ≤ v → nat_eq (48 + h % 10) v ≡ false
no_digit_up h v l = let below : h % 10 < 10 = omega arith in ne_eqb _ _ (λ e. omega (arith, e))

-- the byte of a shown digit
digit_byte : (x h : ℕ) (neg : Bool) → nat_eq 46 x ≡ false → nat_eq x 43 ≡ false → nat_eq x 45 ≡ false → nat_eq x 67 ≡ false → nat_eq x 82 ≡ false → nat_eq x 68 ≡ false → nat_eq x 66 ≡ false → is_digit_mark x ≡ true
    → Byte x h neg (48 + h % 10)
digit_byte x h neg p m n c r d b t = record {
  digit = λ _. inl (shown_digit h);
  other = λ f. absurd (false≢true (sym f ∙ t));
  point = ne_eqb _ _ (λ e. omega (arith, e)) ∙ sym p;
  minus = no_digit_eq h 45 (omega arith) ∙ sym (rw (m, n) refl);
  c = no_digit_up h 67 (omega arith) ∙ sym (rw c refl);
  r = no_digit_up h 82 (omega arith) ∙ sym (rw r refl);
  d = no_digit_up h 68 (omega arith) ∙ sym (rw d refl);
  b' = no_digit_up h 66 (omega arith) ∙ sym (rw b refl);
}

-- a fill in the place of a digit or comma
fill_byte : (x h fill : ℕ) (neg : Bool) → IsFill fill → h ≡ 0 → nat_eq 46 x ≡ false → nat_eq x 43 ≡ false → nat_eq x 45 ≡ false → nat_eq x 67 ≡ false → nat_eq x 82 ≡ false → nat_eq x 68 ≡ false → nat_eq x 66 ≡ false → Byte x h neg fill
fill_byte x h fill neg (inl e) z p m n c r d b = rw e (record {
  digit = λ _. inr (refl, z);
  other = λ _. refl;
  point = sym p;
  minus = sym (rw (m, n) refl);
  c = sym (rw c refl);
  r = sym (rw r refl);
  d = sym (rw d refl);
  b' = sym (rw b refl);
})
fill_byte x h fill neg (inr e) z p m n c r d b = rw e (record {
  digit = λ _. inr (refl, z);
  other = λ _. refl;
  point = sym p;
  minus = sym (rw (m, n) refl);
  c = sym (rw c refl);
  r = sym (rw r refl);
  d = sym (rw d refl);
  b' = sym (rw b refl);
})

-- ---- mark by mark, where it is known whether the digits up to the place are 0

abbrev pub byte_by : Bool → ℕ → ℕ → Bool → ℕ → Bool → ℕ
byte_by z x h floats fill neg = if z && (is_among (codes "Z*") x || ((x == 44) && floats)) then fill else shown_mark x h neg

abbrev Zero : Bool → ℕ → Type 0
Zero true h = h ≡ 0
Zero false h = Unit {0}

sign_byte : (x h : ℕ) (neg : Bool) → (x ≡ 43) ⊎ (x ≡ 45) → Byte x h neg (shown_mark x h neg)
sign_byte x h true (inl e) = rw e (record { digit = λ f. absurd (false≢true f); other = λ _. refl; point = refl; minus = refl; c = refl; r = refl; d = refl; b' = refl })
sign_byte x h false (inl e) = rw e (record { digit = λ f. absurd (false≢true f); other = λ _. refl; point = refl; minus = refl; c = refl; r = refl; d = refl; b' = refl })
sign_byte x h true (inr e) = rw e (record { digit = λ f. absurd (false≢true f); other = λ _. refl; point = refl; minus = refl; c = refl; r = refl; d = refl; b' = refl })
sign_byte x h false (inr e) = rw e (record { digit = λ f. absurd (false≢true f); other = λ _. refl; point = refl; minus = refl; c = refl; r = refl; d = refl; b' = refl })

plain : (x h : ℕ) (neg : Bool) → is_digit_mark x ≡ false → is_ascii_digit x ≡ false → nat_eq x 43 ≡ false → nat_eq x 45 ≡ false → nat_eq x 67 ≡ false → nat_eq x 82 ≡ false → nat_eq x 68 ≡ false → nat_eq x 66 ≡ false → Byte x h neg x
plain x h neg t a m n c r d b = record {
  digit = λ f. absurd (false≢true (sym t ∙ f));
  other = λ _. a;
  point = refl;
  minus = n ∙ sym (rw (m, n) refl);
  c = c ∙ sym (rw c refl);
  r = r ∙ sym (rw r refl);
  d = d ∙ sym (rw d refl);
  b' = b ∙ sym (rw b refl);
}

at_z : (x : ℕ) (z : Bool) (h fill : ℕ) (floats neg : Bool) → Zero z h → IsFill fill → (x ≡ 90) ⊎ (x ≡ 42) → Byte x h neg (byte_by z x h floats fill neg)
at_z x true h fill floats neg null f (inl e) = rw e (fill_byte 90 h fill neg f null refl refl refl refl refl refl refl)
at_z x false h fill floats neg null f (inl e) = rw e (digit_byte 90 h neg refl refl refl refl refl refl refl refl)
at_z x true h fill floats neg null f (inr e) = rw e (fill_byte 42 h fill neg f null refl refl refl refl refl refl refl)
at_z x false h fill floats neg null f (inr e) = rw e (digit_byte 42 h neg refl refl refl refl refl refl refl refl)

at_nine : (z : Bool) (h fill : ℕ) (floats neg : Bool) → Byte 57 h neg (byte_by z 57 h floats fill neg)
at_nine true h fill floats neg = digit_byte 57 h neg refl refl refl refl refl refl refl refl
at_nine false h fill floats neg = digit_byte 57 h neg refl refl refl refl refl refl refl refl

at_comma : (z : Bool) (h fill : ℕ) (floats neg : Bool) → Zero z h → IsFill fill → Byte 44 h neg (byte_by z 44 h floats fill neg)
at_comma true h fill true neg null f = fill_byte 44 h fill neg f null refl refl refl refl refl refl refl
at_comma true h fill false neg null f = plain 44 h neg refl refl refl refl refl refl refl refl
at_comma false h fill floats neg null f = plain 44 h neg refl refl refl refl refl refl refl refl

at_plain : (x : ℕ) (z : Bool) (h fill : ℕ) (floats neg : Bool) → (x ≡ 36) ⊎ (x ≡ 46) → Byte x h neg (byte_by z x h floats fill neg)
at_plain x true h fill floats neg (inl e) = rw e (plain 36 h neg refl refl refl refl refl refl refl refl)
at_plain x false h fill floats neg (inl e) = rw e (plain 36 h neg refl refl refl refl refl refl refl refl)
at_plain x true h fill floats neg (inr e) = rw e (plain 46 h neg refl refl refl refl refl refl refl refl)
at_plain x false h fill floats neg (inr e) = rw e (plain 46 h neg refl refl refl refl refl refl refl refl)

at_sign : (x : ℕ) (z : Bool) (h fill : ℕ) (floats neg : Bool) → (x ≡ 43) ⊎ (x ≡ 45) → Byte x h neg (byte_by z x h floats fill neg)
at_sign x true h fill floats neg (inl e) = rw e (sign_byte 43 h neg (inl refl))
at_sign x false h fill floats neg (inl e) = rw e (sign_byte 43 h neg (inl refl))
at_sign x true h fill floats neg (inr e) = rw e (sign_byte 45 h neg (inr refl))
at_sign x false h fill floats neg (inr e) = rw e (sign_byte 45 h neg (inr refl))

letter : (x h : ℕ) (neg : Bool) → Among (codes "CRDB") x → Byte x h neg (if neg then x else 32)
letter x h true (inl e) = subst (λ y. Byte y h true y) e (record { digit = λ f. absurd (false≢true f); other = λ _. refl; point = refl; minus = refl; c = refl; r = refl; d = refl; b' = refl })
letter x h true (inr (inl e)) = subst (λ y. Byte y h true y) e (record { digit = λ f. absurd (false≢true f); other = λ _. refl; point = refl; minus = refl; c = refl; r = refl; d = refl; b' = refl })
letter x h true (inr (inr (inl e))) = subst (λ y. Byte y h true y) e (record { digit = λ f. absurd (false≢true f); other = λ _. refl; point = refl; minus = refl; c = refl; r = refl; d = refl; b' = refl })
letter x h true (inr (inr (inr (inl e)))) = subst (λ y. Byte y h true y) e (record { digit = λ f. absurd (false≢true f); other = λ _. refl; point = refl; minus = refl; c = refl; r = refl; d = refl; b' = refl })
letter x h true (inr (inr (inr (inr e)))) = absurd e
letter x h false (inl e) = subst (λ y. Byte y h false 32) e (record { digit = λ f. absurd (false≢true f); other = λ _. refl; point = refl; minus = refl; c = refl; r = refl; d = refl; b' = refl })
letter x h false (inr (inl e)) = subst (λ y. Byte y h false 32) e (record { digit = λ f. absurd (false≢true f); other = λ _. refl; point = refl; minus = refl; c = refl; r = refl; d = refl; b' = refl })
letter x h false (inr (inr (inl e))) = subst (λ y. Byte y h false 32) e (record { digit = λ f. absurd (false≢true f); other = λ _. refl; point = refl; minus = refl; c = refl; r = refl; d = refl; b' = refl })
letter x h false (inr (inr (inr (inl e)))) = subst (λ y. Byte y h false 32) e (record { digit = λ f. absurd (false≢true f); other = λ _. refl; point = refl; minus = refl; c = refl; r = refl; d = refl; b' = refl })
letter x h false (inr (inr (inr (inr e)))) = absurd e

letter_is : (x : ℕ) (z : Bool) (h fill : ℕ) (floats neg : Bool) → Among (codes "CRDB") x → (if neg then x else 32) ≡ byte_by z x h floats fill neg
letter_is x true h fill floats neg (inl e) = rw (← e) refl
letter_is x false h fill floats neg (inl e) = rw (← e) refl
letter_is x true h fill floats neg (inr (inl e)) = rw (← e) refl
letter_is x false h fill floats neg (inr (inl e)) = rw (← e) refl
letter_is x true h fill floats neg (inr (inr (inl e))) = rw (← e) refl
letter_is x false h fill floats neg (inr (inr (inl e))) = rw (← e) refl
letter_is x true h fill floats neg (inr (inr (inr (inl e)))) = rw (← e) refl
letter_is x false h fill floats neg (inr (inr (inr (inl e)))) = rw (← e) refl
letter_is x z h fill floats neg (inr (inr (inr (inr e)))) = absurd e

byte_by_is : (x : ℕ) (z : Bool) (h fill : ℕ) (floats neg : Bool) → Zero z h → IsFill fill → Among edited_marks x → Byte x h neg (byte_by z x h floats fill neg)
byte_by_is x z h fill floats neg null f (inl e) = at_sign x z h fill floats neg (inl (sym e))
byte_by_is x z h fill floats neg null f (inr (inl e)) = at_sign x z h fill floats neg (inr (sym e))
byte_by_is x z h fill floats neg null f (inr (inr (inl e))) = at_plain x z h fill floats neg (inl (sym e))
byte_by_is x z h fill floats neg null f (inr (inr (inr (inl e)))) = at_z x z h fill floats neg null f (inl (sym e))
byte_by_is x z h fill floats neg null f (inr (inr (inr (inr (inl e))))) = at_z x z h fill floats neg null f (inr (sym e))
byte_by_is x z h fill floats neg null f (inr (inr (inr (inr (inr (inl e)))))) = subst (λ y. Byte y h neg (byte_by z y h floats fill neg)) e (at_nine z h fill floats neg)
byte_by_is x z h fill floats neg null f (inr (inr (inr (inr (inr (inr (inl e))))))) = subst (λ y. Byte y h neg (byte_by z y h floats fill neg)) e (at_comma z h fill floats neg null f)
byte_by_is x z h fill floats neg null f (inr (inr (inr (inr (inr (inr (inr (inl e)))))))) = at_plain x z h fill floats neg (inr (sym e))
byte_by_is x z h fill floats neg null f (inr (inr (inr (inr (inr (inr (inr (inr l)))))))) = subst (λ b. Byte x h neg b) (letter_is x z h fill floats neg l) (letter x h neg l)

-- the byte in a place, by its mark
pub place_is : (x h fill : ℕ) (floats neg : Bool) → IsFill fill → Among edited_marks x → Byte x h neg (place_byte x h floats fill neg)
place_is x h fill floats neg f a = byte_by_is x (nat_eq h 0) h fill floats neg (zero (nat_eq h 0) refl) f a
  where
    zero : (z : Bool) → nat_eq h 0 ≡ z → Zero z h
    zero true e = eqb-true h 0 e
    zero false e = tt

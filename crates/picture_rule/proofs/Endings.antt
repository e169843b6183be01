-- The sign at the end of an edited picture.
use Rattle.std.proofs.Common.{◌≡◌, ℕ, zero, suc, ◌<◌, ◌⊎◌, inl, inr, true, false, List, [], ◌∷◌, ◌++◌, length, Option, Some, None, refl, sym, ap, subst, ◌∙◌, arith, append-nil, nat_eq}
use Rattle.std.specs.Prelude.{codes, ◌||◌}
use Rattle.std.specs.List.{repeat}
use Rattle.std.specs.Char.{to_ascii_uppercase}
use Rattle.std.proofs.lemmas.Bool.{cases_Bool, or_cases, cond-true, cond-false, eqb-true, false≢true}
use Rattle.picture_rule.specs.Picture.{is_among, OneOf, endings}
use Rattle.picture_rule.specs.Text.{Writes, IsSymbol}
use Rattle.picture_rule.specs.Text.IsSymbol.{single, credit, debit}
use Rattle.picture_rule.specs.Reading.{front, Front, marks_of, sign_length}
use Rattle.picture_rule.specs.declared.run.Symbol.{Symbol}
use Rattle.picture_rule.specs.declared.run.Symbol.TheVariants.{Mark, Credit, Debit}
use Rattle.picture_rule.proofs.Fronts.{Says, forth, back, front_less, front_symbol}
use Rattle.picture_rule.proofs.Parts.{empty_text, no_marks}

symbol_length : {written mark : List ℕ} → IsSymbol written mark → (m : ℕ) → mark ≡ m ∷ [] → is_among (codes "XAS9V+-$Z*,.") m ≡ true
symbol_length (single {c} h) m e = let same : to_ascii_uppercase c ≡ m = cc in subst (λ x. is_among (codes "XAS9V+-$Z*,.") x ≡ true) same h
symbol_length (credit h i) m e = absurd (let bad : ◌≡◌ {A = List ℕ} (82 ∷ []) [] = cc in cc)
symbol_length (debit h i) m e = absurd (let bad : ◌≡◌ {A = List ℕ} (66 ∷ []) [] = cc in cc)

-- a front that writes one symbol alone
pub alone_found : (text : List ℕ) (s : Symbol) (n : ℕ) (rest : List ℕ) → front text ≡ Some (record { symbol = s; times = n; rest = rest }) → n ≡ 1 → rest ≡ [] → Writes text (marks_of s)
alone_found text s n rest e one empty =
    let w : Writes text (repeat n (marks_of s) ++ []) = back text (record { symbol = s; times = n; rest = rest }) e [] (no_marks rest empty) in
    let w' : Writes text (repeat 1 (marks_of s) ++ []) = subst (λ n. Writes text (repeat n (marks_of s) ++ [])) one w in
    subst (λ m. Writes text m) (append-nil (marks_of s ++ []) ∙ append-nil (marks_of s)) w'

-- what such a front is
pub record IsAlone (f : Front) (s : Symbol) : Type 0 where
  pub symbol : f.symbol ≡ s
  pub times : f.times ≡ 1
  pub rest : f.rest ≡ []

abbrev IsReal : Symbol → Type 0
IsReal (Mark m) = is_among (codes "XAS9V+-$Z*,.") m ≡ true
IsReal Credit = Unit {0}
IsReal Debit = Unit {0}

real_symbol : (s : Symbol) (written : List ℕ) → IsSymbol written (marks_of s) → IsReal s
real_symbol (Mark m) written h = symbol_length h m refl
real_symbol Credit written h = tt
real_symbol Debit written h = tt

no_letter : (m v : ℕ) → v ≡ m → is_among (codes "XAS9V+-$Z*,.") v ≡ false → is_among (codes "XAS9V+-$Z*,.") m ≡ true → ⊥
no_letter m v e h i = false≢true (sym h ∙ ap (λ x. is_among (codes "XAS9V+-$Z*,.") x) e ∙ i)

core : (s g : Symbol) (n : ℕ) (more : List ℕ) → 0 < n → IsReal g → marks_of s ≡ repeat n (marks_of g) ++ more → (g ≡ s) × (n ≡ 1) × (more ≡ [])
core s g zero more h r e = absurd (omega arith)
core (Mark a) (Mark b) (suc zero) more h r e = (let same : b ≡ a = cc in ap Mark same, refl, let none : more ≡ [] = cc in none)
core (Mark a) (Mark b) (suc (suc n)) more h r e = absurd (let none : ◌≡◌ {A = List ℕ} [] (b ∷ (repeat n (b ∷ []) ++ more)) = cc in cc)
core (Mark a) Credit (suc n) more h r e = absurd (let none : ◌≡◌ {A = List ℕ} [] (82 ∷ (repeat n (67 ∷ 82 ∷ []) ++ more)) = cc in cc)
core (Mark a) Debit (suc n) more h r e = absurd (let none : ◌≡◌ {A = List ℕ} [] (66 ∷ (repeat n (68 ∷ 66 ∷ []) ++ more)) = cc in cc)
core Credit (Mark b) (suc n) more h r e = absurd (no_letter b 67 (let same : ◌≡◌ {A = ℕ} 67 b = cc in same) refl r)
core Credit Credit (suc zero) more h r e = (refl, refl, let none : more ≡ [] = cc in none)
core Credit Credit (suc (suc n)) more h r e = absurd (let none : ◌≡◌ {A = List ℕ} [] (67 ∷ 82 ∷ (repeat n (67 ∷ 82 ∷ []) ++ more)) = cc in cc)
core Credit Debit (suc n) more h r e = absurd (let bad : ◌≡◌ {A = ℕ} 67 68 = cc in omega (arith, bad))
core Debit (Mark b) (suc n) more h r e = absurd (no_letter b 68 (let same : ◌≡◌ {A = ℕ} 68 b = cc in same) refl r)
core Debit Debit (suc zero) more h r e = (refl, refl, let none : more ≡ [] = cc in none)
core Debit Debit (suc (suc n)) more h r e = absurd (let none : ◌≡◌ {A = List ℕ} [] (68 ∷ 66 ∷ (repeat n (68 ∷ 66 ∷ []) ++ more)) = cc in cc)
core Debit Credit (suc n) more h r e = absurd (let bad : ◌≡◌ {A = ℕ} 68 67 = cc in omega (arith, bad))

pub alone_only : (text : List ℕ) (f : Front) (s : Symbol) → front text ≡ Some f → Writes text (marks_of s) → IsAlone f s
alone_only text f s e w =
    let said : Says (Some f) text (marks_of s) = rw e at (forth w) in
    let real = front_symbol text f e in
    let is = core s f.symbol f.times said.0 (front_less text f e).some (real_symbol f.symbol real.0 real.1) said.1 in
    record { symbol = is.0; times = is.1; rest = empty_text f.rest (subst (λ m. Writes f.rest m) is.2 said.2) }

some_mark : (s : Symbol) → marks_of s ≡ [] → ⊥
some_mark (Mark m) e = cc
some_mark Credit e = cc
some_mark Debit e = cc

pub nothing_front : (text : List ℕ) (s : Symbol) → front text ≡ None → Writes text (marks_of s) → ⊥
nothing_front text s e w = let said : Says None text (marks_of s) = rw e at (forth w) in some_mark s said.1

-- ---- the symbols that are signs

pub sign_after : (s : Symbol) → (sign_length s ≡ 0 → ⊥) → OneOf endings (marks_of s) × (sign_length s ≡ length (marks_of s))
sign_after Credit h = (inr (inr (inr (inl refl))), refl)
sign_after Debit h = (inr (inr (inr (inr (inl refl)))), refl)
sign_after (Mark m) h = elim (cases_Bool ((nat_eq m 43) || (nat_eq m 45))) [
  | inl t ↦ (one_of t, cond-true _ _ _ t)
  | inr f ↦ absurd (h (cond-false _ _ _ f))
]
  where
    one_of : ((nat_eq m 43) || (nat_eq m 45)) ≡ true → OneOf endings (m ∷ [])
    one_of t = elim (or_cases _ _ t) [ inl e ↦ inr (inl (ap (λ x. x ∷ []) (eqb-true m 43 e))) | inr e ↦ inr (inr (inl (ap (λ x. x ∷ []) (eqb-true m 45 e)))) ]

-- An ending is nothing or a sign symbol.
abbrev pub Ends : List ℕ → Type 0
Ends after = (after ≡ []) ⊎ ((s : Symbol) × (after ≡ marks_of s) × (sign_length s ≡ length after) × (sign_length s ≡ 0 → ⊥))

pub after_sign : (after : List ℕ) → OneOf endings after → Ends after
after_sign after (inl e) = inl e
after_sign after (inr (inl e)) = inr (Mark 43, e, rw e refl, λ h. omega (arith, h))
after_sign after (inr (inr (inl e))) = inr (Mark 45, e, rw e refl, λ h. omega (arith, h))
after_sign after (inr (inr (inr (inl e)))) = inr (Credit, e, rw e refl, λ h. omega (arith, h))
after_sign after (inr (inr (inr (inr (inl e))))) = inr (Debit, e, rw e refl, λ h. omega (arith, h))
after_sign after (inr (inr (inr (inr (inr h))))) = absurd h

-- a text that is not empty and ends so is a sign symbol
pub ended : (text after : List ℕ) (o : Option Symbol) → (text ≡ [] → ⊥) → Writes text after → OneOf endings after → ((s : Symbol) → Writes text (marks_of s) → o ≡ Some s)
    → (s : Symbol) × (o ≡ Some s) × (sign_length s ≡ length after) × (sign_length s ≡ 0 → ⊥)
ended text after o some w h only = go (after_sign after h)
  where
    go : Ends after → (s : Symbol) × (o ≡ Some s) × (sign_length s ≡ length after) × (sign_length s ≡ 0 → ⊥)
    go (inl e) = absurd (some (empty_text text (subst (λ m. Writes text m) e w)))
    go (inr x) = (x.0, only x.0 (subst (λ m. Writes text m) x.1 w), x.2, x.3)

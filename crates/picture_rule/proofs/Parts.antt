-- Marks fall into parts in one way.
use Rattle.std.proofs.Common.{◌≡◌, ℕ, zero, suc, ◌<◌, inl, inr, true, List, [], ◌∷◌, ◌++◌, length, replicate, Option, Some, None, refl, sym, ap, subst, ◌∙◌, arith}
use Rattle.std.specs.List.{repeat}
use Rattle.std.proofs.lemmas.Bool.{and_parts, eqb-true, eq-eqb, and_from, or_left, or_cases, both_ways, false≢true}
use Rattle.picture_rule.specs.Picture.{is_among, AllAmong}
use Rattle.picture_rule.specs.Text.{Writes}
use Rattle.picture_rule.specs.Text.Writes.{nothing}
use Rattle.picture_rule.specs.Reading.{front, symbol_at, Front, marks_of}
use Rattle.picture_rule.specs.Outline.{Begins}
use Rattle.picture_rule.specs.Span.{StopsAt, IsSpan}
use Rattle.picture_rule.specs.declared.run.Symbol.{Symbol}
use Rattle.picture_rule.specs.declared.run.Symbol.TheVariants.{Mark, Credit, Debit}
use Rattle.picture_rule.proofs.Fronts.{Says, forth, front_less}

-- Marks before the first that is not wanted are the same in both.
pub same_part : (wanted marks more part others : List ℕ) → AllAmong wanted marks → Begins wanted more → AllAmong wanted part → Begins wanted others
    → marks ++ more ≡ part ++ others → (marks ≡ part) × (more ≡ others)
same_part wanted [] more [] others a b p o e = (refl, e)
same_part wanted [] [] (y ∷ part) others a b p o e = absurd (let none : ◌≡◌ {A = List ℕ} [] (y ∷ (part ++ others)) = e in cc)
same_part wanted [] (x ∷ more) (y ∷ part) others a b p o e =
    absurd (let head : x ≡ y = cc in both_ways _ b (subst (λ z. is_among wanted z ≡ true) (sym head) (and_parts _ _ p).0))
same_part wanted (x ∷ marks) more [] [] a b p o e = absurd (let none : ◌≡◌ {A = List ℕ} (x ∷ (marks ++ more)) [] = e in cc)
same_part wanted (x ∷ marks) more [] (y ∷ others) a b p o e =
    absurd (let head : x ≡ y = cc in both_ways _ o (subst (λ z. is_among wanted z ≡ true) head (and_parts _ _ a).0))
same_part wanted (x ∷ marks) more (y ∷ part) others a b p o e =
    let head : x ≡ y = cc in let tails : marks ++ more ≡ part ++ others = cc in
    let rest = same_part wanted marks more part others (and_parts _ _ a).1 b (and_parts _ _ p).1 o tails in
    (ap (λ z. z ∷ marks) head ∙ ap (λ z. y ∷ z) rest.0, rest.1)

pub begins : (wanted text more : List ℕ) → StopsAt wanted text → Writes text more → Begins wanted more
begins wanted text [] s w = tt
begins wanted text (mark ∷ more) s w = s mark more w

some_marks : (s : Symbol) (n : ℕ) (more : List ℕ) → 0 < n → ◌≡◌ {A = List ℕ} [] (repeat n (marks_of s) ++ more) → ⊥
some_marks s zero more h e = omega arith
some_marks (Mark m) (suc n) more h e = cc
some_marks Credit (suc n) more h e = cc
some_marks Debit (suc n) more h e = cc

-- a text that writes no mark is empty
pub empty_text : (text : List ℕ) → Writes text [] → text ≡ []
empty_text text w = go (front text) refl (forth w)
  where
    go : (o : Option Front) → front text ≡ o → Says o text [] → text ≡ []
    go None e said = said.0
    go (Some f) e said = absurd (some_marks f.symbol f.times said.0 (front_less text f e).some said.1)

pub no_marks : (text : List ℕ) → text ≡ [] → Writes text []
no_marks text e = subst (λ t. Writes t []) (sym e) nothing

empty_writes : (marks : List ℕ) → Writes [] marks → marks ≡ []
unfolding front symbol_at
empty_writes marks w = let said : Says (front []) [] marks = forth w in said.1

pub nothing_left : (text marks : List ℕ) → text ≡ [] → Writes text marks → marks ≡ []
nothing_left text marks e w = empty_writes marks (subst (λ t. Writes t marks) e w)

-- A span takes the part of the marks that is of its kind, and leaves the others to the rest.
pub record Takes (marks part rest others : List ℕ) : Type 0 where
  pub same : marks ≡ part
  pub left : Writes rest others

pub takes : (wanted text marks rest part others : List ℕ) → IsSpan wanted text marks rest → Writes text (part ++ others) → AllAmong wanted part → Begins wanted others → Takes marks part rest others
takes wanted text marks rest part others s w p o =
    let split = s.reads.forth (part ++ others) w in
    let both = same_part wanted marks split.0 part others s.all (begins wanted rest split.0 s.stops split.2) p o (sym split.1) in
    record { same = both.0; left = subst (λ m. Writes rest m) both.1 split.2 }

-- ---- marks of one kind

pub one_of : (only mark : ℕ) → is_among (only ∷ []) mark ≡ true → mark ≡ only
one_of only mark h = elim (or_cases _ _ h) [ inl e ↦ sym (eqb-true only mark e) | inr e ↦ absurd (false≢true e) ]

pub all_one : (only : ℕ) (marks : List ℕ) → AllAmong (only ∷ []) marks → marks ≡ replicate (length marks) only
all_one only [] h = refl
all_one only (mark ∷ marks) h = let parts = and_parts _ _ h in ap (λ m. m ∷ marks) (one_of only mark parts.0) ∙ ap (λ r. only ∷ r) (all_one only marks parts.1)

pub replicate_among : (n only : ℕ) → AllAmong (only ∷ []) (replicate n only)
replicate_among zero only = refl
replicate_among (suc n) only = and_from _ _ (or_left _ _ (eq-eqb only only refl)) (replicate_among n only)

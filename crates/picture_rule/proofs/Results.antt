-- What `read_picture` answers, from what it has read.
use Rattle.std.proofs.Common.{◌≡◌, ◌-◌, ◌^◌, refl, sym, subst, ap, ◌∙◌, arith, List, ℕ, Bool, true, false, Err, Result}
use Rattle.std.specs.Prelude.{◌==◌, IfErr, min}
use Rattle.std.proofs.lemmas.Bool.Decides.{nat_tests}
use Rattle.picture_rule.specs.Picture.{Form, IsWithin}
use Rattle.picture_rule.specs.Text.{Spells, Fits, IsTooWide, IsWhole}
use Rattle.picture_rule.specs.Reading.{counted}
use Rattle.picture_rule.specs.Outline.{IsOutline}
use Rattle.picture_rule.specs.declared.outline.Outline.{Outline}
use Rattle.picture_rule.specs.declared.kind.PictureKind.{PictureKind}
use Rattle.picture_rule.specs.declared.kind.PictureKind.TheVariants.{Alphanumeric, Group, Numeric, Edited}
use Rattle.picture_rule.specs.declared.fault.PictureFault.{PictureFault}
use Rattle.picture_rule.specs.declared.fault.PictureFault.TheVariants as faults

counted_within : (kind : PictureKind) (a b d : ℕ) → IsWithin kind (counted a) (counted b) (counted d) → IsWithin kind a b d
counted_within Alphanumeric a b d h = omega (arith, h)
counted_within Group a b d h = tt
counted_within Numeric a b d h = (omega (arith, h.0), omega (arith, h.1))
counted_within Edited a b d h = (omega (arith, h.0), omega (arith, h.1), omega (arith, h.2))

within_counted : (kind : PictureKind) (a b d : ℕ) → IsWithin kind a b d → IsWithin kind (counted a) (counted b) (counted d)
within_counted Alphanumeric a b d h = omega (arith, h)
within_counted Group a b d h = tt
within_counted Numeric a b d h = (omega (arith, h.0), omega (arith, h.1))
within_counted Edited a b d h = (omega (arith, h.0), omega (arith, h.1), omega (arith, h.2))

-- the counts keep the limits exactly where the form does
pub fits : (o : Outline) (form : Form) → IsOutline o form → IsWithin o.kind o.size o.digits o.decimals → Fits form
fits o form h w = counted_within form.kind form.size form.digits form.decimals (rw (← h.kind, ← h.size, ← h.digits, ← h.decimals) w)

pub within : (o : Outline) (form : Form) → IsOutline o form → Fits form → IsWithin o.kind o.size o.digits o.decimals
within o form h f = rw (h.kind, h.size, h.digits, h.decimals) (within_counted form.kind form.size form.digits form.decimals f)

pub fault_is : {P : Type 0} (r : Result P PictureFault) (fault : PictureFault) → IfErr r (λ f. f ≡ faults.NoMemory) → r ≡ Err fault → fault ≡ faults.NoMemory
fault_is r fault h e = subst (λ x. IfErr x (λ f. f ≡ faults.NoMemory)) e h

-- A size as it is told, from the size as it is counted.
told : (n : ℕ) → min (counted n) (2 ^ 32 - 1) ≡ min n (2 ^ 32 - 1)
told n = omega arith

pub zero_is : (n : ℕ) → (n == 0) ≡ true → n ≡ 0
zero_is n h = grind (arith, nat_tests)

-- no decimals are counted exactly where the text spells a form without any
pub is_whole : (text : List ℕ) (o : Outline) (marks : List ℕ) (form : Form) → Spells text marks form → ((m : List ℕ) (f : Form) → Spells text m f → IsOutline o f) → IsWhole text (o.decimals == 0)
is_whole text o marks form s only = (
  λ zero. let none = zero_is o.decimals zero in (marks, form, s, omega (arith, (only marks form s).decimals, none)),
  λ spelled. (let none : o.decimals ≡ 0 = omega (arith, (only spelled.0 spelled.1 spelled.2).decimals, spelled.3) in rw none refl),
)

-- and so there is one answer
pub whole_once : (text : List ℕ) (a b : Bool) → IsWhole text a → IsWhole text b → a ≡ b
whole_once text true true one two = refl
whole_once text true false one two = sym (two.1 (one.0 refl))
whole_once text false true one two = one.1 (two.0 refl)
whole_once text false false one two = refl

pub too_wide_is : (text : List ℕ) (o : Outline) (kind : PictureKind) (size told_size : ℕ) (signed : Bool) → ((marks : List ℕ) (form : Form) → Spells text marks form → IsOutline o form) → told_size ≡ min o.size (2 ^ 32 - 1)
    → IsTooWide text kind size signed → (o.kind ≡ kind) × (told_size ≡ size) × (o.signed ≡ signed)
too_wide_is text o kind size told_size signed only e t =
    let h = only t.0 t.1 t.2 in
    (h.kind ∙ sym t.4, e ∙ ap (λ s. min s (2 ^ 32 - 1)) h.size ∙ told t.1.size ∙ sym t.5, h.signed ∙ sym t.6)

pub is_too_wide : (text : List ℕ) (o : Outline) (told_size : ℕ) (marks : List ℕ) (form : Form) → Spells text marks form → IsOutline o form → told_size ≡ min o.size (2 ^ 32 - 1)
    → (IsWithin o.kind o.size o.digits o.decimals → ⊥) → IsTooWide text o.kind told_size o.signed
is_too_wide text o told_size marks form s h e outside =
    (marks, form, s, (λ f. outside (within o form h f)), h.kind, e ∙ ap (λ s. min s (2 ^ 32 - 1)) h.size ∙ told form.size, h.signed)

pub same_too_wide : (text : List ℕ) (kind kind' : PictureKind) (size size' : ℕ) (signed signed' whole whole' : Bool) → faults.TooWide kind size signed whole ≡ faults.TooWide kind' size' signed' whole'
    → IsTooWide text kind size signed → IsWhole text whole → IsTooWide text kind' size' signed' × IsWhole text whole'
same_too_wide text kind kind' size size' signed signed' whole whole' e t w =
    let k : kind ≡ kind' = cc in let n : size ≡ size' = cc in let s : signed ≡ signed' = cc in let h : whole ≡ whole' = cc in
    ((t.0, t.1, t.2, t.3, sym k ∙ t.4, sym n ∙ t.5, sym s ∙ t.6), subst (IsWhole text) h w)

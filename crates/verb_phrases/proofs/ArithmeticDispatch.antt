-- At which words the parts of arithmetic open, and the last of several operands.
use Rattle.std.proofs.Common.{◌≡◌, ℕ, List, [], ◌∷◌, ◌++◌, refl, ap}
use Rattle.cob_base.specs.declared.keywords.Keyword.TheVariants as k
use Rattle.cob_base.specs.declared.operands.Operand.{Operand}
use Rattle.cob_base.specs.Form.Form.{some}
use Rattle.cob_base.specs.Form.{Words, opens}
use Rattle.cob_base.specs.Phrases.{key, name, reference, reference_within, constant, operand}
use Rattle.cob_base.specs.Statements.{but_last, references, operand_list, giving, reference_receivers, constant_receivers, receivers, to_receivers, several_added, into_receivers}

module _ (d : ℕ) where
  pub opens_reference_is : (w : Words) → opens (reference d) w ≡ opens name w
  unfolding reference reference_within name
  opens_reference_is w = refl

  pub opens_references_is : (w : Words) → opens (reference d) w ≡ opens (some (reference d)) w
  unfolding reference
  opens_references_is w = refl

  pub opens_giving_is : (w : Words) → opens (giving d) w ≡ opens (key k.Giving) w
  unfolding giving references reference
  opens_giving_is [] = refl
  opens_giving_is (v ∷ w) = refl

  pub opens_reference_receivers_is : (w : Words) → opens (reference_receivers d) w ≡ opens name w
  unfolding reference_receivers reference reference_within name
  opens_reference_receivers_is w = refl

  pub opens_to_receivers_is : (w : Words) → opens (to_receivers d) w ≡ opens (key k.To) w
  unfolding to_receivers receivers reference_receivers constant_receivers reference constant
  opens_to_receivers_is [] = refl
  opens_to_receivers_is (v ∷ w) = refl

  pub opens_into_receivers_is : (w : Words) → opens (into_receivers d) w ≡ opens (key k.Into) w
  unfolding into_receivers receivers reference_receivers constant_receivers reference constant
  opens_into_receivers_is [] = refl
  opens_into_receivers_is (v ∷ w) = refl

  pub opens_several_added_is : (w : Words) → opens (several_added d) w ≡ opens (operand d) w
  unfolding several_added operand_list operand
  opens_several_added_is w = refl

not-ended : (init : List Operand) (last : Operand) → [] ≡ init ++ last ∷ [] → ⊥
not-ended [] last e = absurd cc
not-ended (a ∷ init) last e = absurd cc

pub but_last_is : (first : Operand) (more init : List Operand) (last : Operand) → first ∷ more ≡ init ++ last ∷ [] → but_last first more ≡ (init, last)
but_last_is only [] [] last e = let same : only ≡ last = cc in ap (λ x. ([], x)) same
but_last_is only [] (a ∷ init) last e = absurd (not-ended init last cc)
but_last_is first (second ∷ more) [] last e = absurd cc
but_last_is first (second ∷ more) (a ∷ init) last e =
    let same : first ≡ a = cc in
    let others : second ∷ more ≡ init ++ last ∷ [] = cc in
    rw (but_last_is second more init last others, same) refl

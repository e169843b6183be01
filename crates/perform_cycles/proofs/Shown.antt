-- Marks that are shown, paragraph by paragraph.
use Rattle.std.specs.Prelude.{option_map}
use Rattle.std.proofs.Common.{◌≡◌, ℕ, ◌+◌, ◌<◌, List, map, get_or, ap, ◌∙◌, subst, arith, true, inl, inr}
use Rattle.std.proofs.lemmas.Bool.{cases_lt}
use Rattle.std.proofs.lemmas.Option.{get_or_from_slice_get, slice_get-map}
use Rattle.perform_cycles.specs.declared.arrows.Arrow.{Arrow}
use Rattle.perform_cycles.specs.declared.finding.Place.{Place}
use Rattle.perform_cycles.specs.Finding.{IsPlace, IsCyclic, IsShown}

pub shown_more : (arrows : List Arrow) (places : List Place) (at_number : ℕ) (d : Place) → ((k : ℕ) → k < at_number → IsShown arrows places k)
    → ((get_or places at_number d).cyclic ≡ true → IsCyclic arrows places at_number (get_or places at_number d)) → (k : ℕ) → k < at_number + 1 → IsShown arrows places k
shown_more arrows places at_number d before here k below = elim (cases_lt k at_number) as (λ _. IsShown arrows places k) [
  | inl less ↦ before k less
  | inr not_less ↦ subst (IsShown arrows places) (omega (arith, not_less, below)) (λ place is cyclic.
      let same : get_or places at_number d ≡ place = get_or_from_slice_get places at_number place d is in
      subst (IsCyclic arrows places at_number) same (here (ap (λ p. p.cyclic) same ∙ cyclic)))
]

-- a bound on groups is a bound on what was found
pub group_at : (places : List Place) (k : ℕ) (found : Place) → IsPlace places k found → get_or (map (λ place. place.group) places) k 0 ≡ found.group
group_at places k found is =
    get_or_from_slice_get (map (λ place. place.group) places) k found.group 0
    (slice_get-map (λ place. place.group) places k ∙ ap (option_map (λ place. place.group)) is)

-- Marks with good reasons are those of the paragraphs on cycles.
use Rattle.std.proofs.Common.{◌≡◌, ℕ, zero, suc, ◌+◌, ◌<◌, ◌≤◌, List, length, map, get_or, ap, sym, refl, ◌∙◌, subst, arith, Bool, true, false, inl, inr, Some, All, Option}
use Rattle.std.specs.Prelude.{◌⊎◌, slice_get, if◌then◌else◌, None, option_map}
use Rattle.std.proofs.lemmas.Option.{slice_get-map, slice_get-get_or, get_or_from_slice_get}
use Rattle.std.proofs.lemmas.List.{length-map}
use Rattle.std.proofs.lemmas.List.Elements.{All-contains}
use Rattle.perform_cycles.specs.declared.arrows.Arrow.{Arrow}
use Rattle.perform_cycles.specs.declared.finding.Place.{Place}
use Rattle.perform_cycles.specs.Cycles.{IsStep, Leads, by_one, further, IsOnCycle, AreMarks}
use Rattle.perform_cycles.specs.Finding.{IsPlace, IsShown, IsAscending, IsRight, bound_of}

-- ---- paths

pub joined : {arrows : List Arrow} {a b c : ℕ} → Leads arrows a b → Leads arrows b c → Leads arrows a c
joined (by_one step) rest = further step rest
joined (further step more) rest = further step (joined more rest)

pub one_more : {arrows : List Arrow} {a b c : ℕ} → Leads arrows a b → IsStep arrows b c → Leads arrows a c
one_more path step = joined path (by_one step)

-- ---- marked paragraphs are on cycles

module _ (arrows : List Arrow) (places : List Place) (shown : (paragraph : ℕ) → IsShown arrows places paragraph) where
  -- a marked paragraph is its root, or leads to it
  pub to_root : (n p : ℕ) (place : Place) → place.taken < n → IsPlace places p place → place.cyclic ≡ true → (p ≡ place.root) ⊎ Leads arrows p place.root
  to_root zero p place few is cyclic = absurd (omega (arith, few))
  to_root (suc n) p place few is cyclic =
      let on = (shown p place is cyclic).on in
      elim on.nearer as (λ _. (p ≡ place.root) ⊎ Leads arrows p place.root) [
        | inl same ↦ inl same
        | inr nearer ↦ inr (elim (to_root n on.next on.found (omega (arith, few, nearer)) on.group.is on.group.cyclic) as (λ _. Leads arrows p place.root) [
          | inl there ↦ subst (Leads arrows p) (there ∙ on.group.rooted) (by_one on.step)
          | inr path ↦ further on.step (subst (Leads arrows on.next) on.group.rooted path)
        ])
      ]

  -- a marked paragraph is its root, or led to by it
  pub from_root : (n p : ℕ) (place : Place) → place.seen < n → IsPlace places p place → place.cyclic ≡ true → (p ≡ place.root) ⊎ Leads arrows place.root p
  from_root zero p place few is cyclic = absurd (omega (arith, few))
  from_root (suc n) p place few is cyclic =
      elim (shown p place is cyclic).reached as (λ _. (p ≡ place.root) ⊎ Leads arrows place.root p) [
        | inl same ↦ inl same
        | inr by ↦ inr (elim (from_root n by.before by.found (omega (arith, few, by.earlier)) by.group.is by.group.cyclic) as (λ _. Leads arrows place.root p) [
          | inl there ↦ by_one (subst (λ q. IsStep arrows q p) (there ∙ by.group.rooted) by.step)
          | inr path ↦ one_more (subst (λ q. Leads arrows q by.before) by.group.rooted path) by.step
        ])
      ]

  -- the root of a marked paragraph is on a cycle
  root_cycles : (p : ℕ) (place : Place) → IsPlace places p place → place.cyclic ≡ true → p ≡ place.root → IsOnCycle arrows p
  root_cycles p place is cyclic same =
      let on = (shown p place is cyclic).on in
      elim (to_root (suc on.found.taken) on.next on.found (omega arith) on.group.is on.group.cyclic) as (λ _. IsOnCycle arrows p) [
        | inl there ↦ subst (Leads arrows p) (there ∙ on.group.rooted ∙ sym same) (by_one on.step)
        | inr path ↦ further on.step (subst (Leads arrows on.next) (on.group.rooted ∙ sym same) path)
      ]

  pub marked_cycles : (p : ℕ) (place : Place) → IsPlace places p place → place.cyclic ≡ true → IsOnCycle arrows p
  marked_cycles p place is cyclic =
      elim (to_root (suc place.taken) p place (omega arith) is cyclic) as (λ _. IsOnCycle arrows p) [
        | inl same ↦ root_cycles p place is cyclic same
        | inr there ↦ elim (from_root (suc place.seen) p place (omega arith) is cyclic) as (λ _. IsOnCycle arrows p) [
          | inl same ↦ root_cycles p place is cyclic same
          | inr back ↦ joined there back
        ]
      ]

-- ---- paragraphs without a mark are on none

abbrev held : Place → Option Place → Place
held other None = other
held other (Some place) = place

same_place : (places : List Place) (p : ℕ) (x y : Place) → IsPlace places p x → IsPlace places p y → x ≡ y
same_place places p x y here there = ap (held x) (sym here ∙ there)

at_least : (cyclic : Bool) (group : ℕ) → group ≤ (if cyclic then group else group + 1)
at_least true group = omega arith
at_least false group = omega arith

above : (x : Place) → x.cyclic ≡ false → bound_of x ≡ x.group + 1
above x unset = ap (λ cyclic. if cyclic then x.group else x.group + 1) unset

module _ (arrows : List Arrow) (places : List Place) (ascending : All (IsAscending places) arrows) where
  up_of : {p q : ℕ} (step : IsStep arrows p q) → IsAscending places step.arrow
  up_of step = All-contains (IsAscending places) arrows step.arrow ascending step.among

  -- a step leads to no group below the bound
  climbs : {p q : ℕ} (step : IsStep arrows p q) (x y : Place) → IsPlace places p x → IsPlace places q y → bound_of x ≤ y.group
  climbs {p = p} {q = q} step x y is there =
      let up = up_of step in
      let same : up.place ≡ x = same_place places p up.place x (sym (ap (slice_get places) step.from_here) ∙ up.is) is in
      subst (λ place. bound_of place ≤ y.group) same (up.no_lower q y step.not_before step.not_after there)

  -- where a step leads from, something was found
  from_place : {p q : ℕ} (step : IsStep arrows p q) → (x : Place) × IsPlace places p x
  from_place step = let up = up_of step in (up.place, sym (ap (slice_get places) step.from_here) ∙ up.is)

  first_place : {p q : ℕ} → Leads arrows p q → (x : Place) × IsPlace places p x
  first_place (by_one step) = from_place step
  first_place (further step rest) = from_place step

  -- nor does a path
  climbs_far : {p q : ℕ} → Leads arrows p q → (x y : Place) → IsPlace places p x → IsPlace places q y → bound_of x ≤ y.group
  climbs_far (by_one step) x y is there = climbs step x y is there
  climbs_far (further step rest) x y is there =
      let z = first_place rest in
      let one : bound_of x ≤ z.0.group = climbs step x z.0 is z.1 in
      let more : bound_of z.0 ≤ y.group = climbs_far rest z.0 y z.1 there in
      let least : z.0.group ≤ bound_of z.0 = at_least z.0.cyclic z.0.group in
      omega (arith, one, more, least)

  pub unmarked : (p : ℕ) (x : Place) → IsPlace places p x → x.cyclic ≡ false → IsOnCycle arrows p → ⊥
  unmarked p x is unset path =
      let over : bound_of x ≤ x.group = climbs_far path x x is is in
      omega (arith, over, above x unset)

-- ---- both

nowhere : Place
nowhere = record { group = 0; root = 0; cyclic = false; reached_by = None; seen = 0; onward = None; taken = 0 }

pub marks_are : (arrows : List Arrow) (places : List Place) → IsRight arrows places → AreMarks (length places) arrows (map (λ place. place.cyclic) places)
marks_are arrows places right = record {
  each = length-map places (λ place. place.cyclic);
  set = λ p below.
      let x = get_or places p nowhere in
      let is : IsPlace places p x = slice_get-get_or places p nowhere below in
      let mark : get_or (map (λ place. place.cyclic) places) p false ≡ x.cyclic =
      get_or_from_slice_get (map (λ place. place.cyclic) places) p x.cyclic false (slice_get-map (λ place. place.cyclic) places p ∙ ap (option_map (λ place. place.cyclic)) is) in (
        (λ set. marked_cycles arrows places right.shown p x is (sym mark ∙ set)),
        (λ path. elim (cases_of x.cyclic) as (λ _. get_or (map (λ place. place.cyclic) places) p false ≡ true) [
          | inl is_set ↦ mark ∙ is_set
          | inr unset ↦ absurd (unmarked arrows places right.ascending p x is unset path)
        ]),
      );
}
  where
    cases_of : (b : Bool) → (b ≡ true) ⊎ (b ≡ false)
    cases_of true = inl refl
    cases_of false = inr refl

-- A group around an item that passes a test, and the first item that passes.
use Rattle.std.proofs.Common.{◌≡◌, ◌∙◌, ◌⊎◌, inl, inr, refl, sym, ap, Bool, true, false, ◌||◌, List, [], ◌∷◌, ◌++◌, append_assoc, append-nil, Some}
use Rattle.std.specs.Prelude.{if◌then◌else◌, filter, find}
use Rattle.std.specs.List.{list_any, list_all}
use Rattle.data_layout.specs.Storage.{goes_on}
use Rattle.data_names.specs.Items.{DataItem}
use Rattle.data_names.specs.Spots.{Spot, spots_after, spot_of, open_after, around}
use Rattle.data_names.proofs.Cuts.{chosen_cut}

-- a group with what stands ahead of it and behind it: all that follows goes on in it
pub record InGroup (before : List DataItem) (item : DataItem) (test : DataItem → Bool) : Type 0 where
  pub ahead : List DataItem
  pub group : DataItem
  pub middle : List DataItem
  pub cut : before ≡ ahead ++ group ∷ middle
  pub goes : list_all (λ (other : DataItem). goes_on group.row other.row) middle ≡ true
  pub holds : goes_on group.row item.row ≡ true
  pub passes : test group ≡ true

first_or : (chosen test : DataItem → Bool) (b c t : Bool) (x : DataItem) (xs : List DataItem) → chosen x ≡ c → test x ≡ t → list_any test (filter chosen (if b then x ∷ xs else xs)) ≡ true
    → ((b ≡ true) × (c ≡ true) × (t ≡ true)) ⊎ (list_any test (filter chosen xs) ≡ true)
first_or chosen test false c t x xs e f h = inr h
first_or chosen test true false t x xs e f h = inr (rw e at h)
first_or chosen test true true true x xs e f h = inl (refl, refl, refl)
first_or chosen test true true false x xs e f h = inr (rw (e, f) at h)

pub in_group : (before : List DataItem) (item : DataItem) (test : DataItem → Bool) → list_any test (around (λ other. other.row) before item) ≡ true → InGroup before item test
in_group [] item test h = cc h
in_group (x ∷ later) item test h =
    elim (first_or (λ (group : DataItem). goes_on group.row item.row) test (list_all (λ (other : DataItem). goes_on x.row other.row) later) (goes_on x.row item.row) (test x) x (open_after (λ (other : DataItem). other.row) later) refl refl h)
    as (λ _. InGroup (x ∷ later) item test) [
      | inl here ↦ record { ahead = []; group = x; middle = later; cut = refl; goes = here.0; holds = here.1; passes = here.2 }
      | inr more ↦
          let g = in_group later item test more in
          record { ahead = x ∷ g.ahead; group = g.group; middle = g.middle; cut = ap (λ rest. x ∷ rest) g.cut; goes = g.goes; holds = g.holds; passes = g.passes }
    ]

neither : (a b : Bool) → (a || b) ≡ false → (a ≡ false) × (b ≡ false)
neither false false h = (refl, refl)
neither false true h = cc h
neither true b h = cc h

-- the first that passes
pub found_first : (test : DataItem → Bool) (before ahead : List DataItem) (g : DataItem) (rest : List DataItem) → list_any test ahead ≡ false → test g ≡ true
    → find (λ (spot : Spot DataItem). test spot.item) (spots_after before (ahead ++ g ∷ rest)) ≡ Some (spot_of (before ++ ahead) g rest)
found_first test before [] g rest n e = rw (e, append-nil before) refl
found_first test before (x ∷ ahead) g rest n e =
    let parts = neither (test x) (list_any test ahead) n in
    rw parts.0 (found_first test (before ++ x ∷ []) ahead g rest parts.1 e ∙ ap (λ front. Some (spot_of front g rest)) (append_assoc before (x ∷ []) ahead))

-- what no spot has, it has not
pub spot_lacks : (test p : Spot DataItem → Bool) (all : List (Spot DataItem)) (spot : Spot DataItem) → filter test all ≡ spot ∷ [] → list_any p all ≡ false → p spot ≡ false
spot_lacks test p [] spot e n = cc e
spot_lacks test p (x ∷ all) spot e n =
    let parts = neither (p x) (list_any p all) n in
    chosen_cut test (test x) x spot (filter test all) e (λ same. ap p (sym same) ∙ parts.0) (λ later. spot_lacks test p all spot later parts.1)

fewer : (chosen test : DataItem → Bool) (b c : Bool) (x : DataItem) (xs : List DataItem) → chosen x ≡ c → list_any test (filter chosen (if b then x ∷ xs else xs)) ≡ false → list_any test (filter chosen xs) ≡ false
fewer chosen test false c x xs e h = h
fewer chosen test true false x xs e h = rw e at h
fewer chosen test true true x xs e h = (neither (test x) _ (rw e at h)).1

-- what no group around an item passes, this one does not
pub group_lacks : (test : DataItem → Bool) (ahead : List DataItem) (group : DataItem) (middle : List DataItem) (item : DataItem) → list_all (λ (other : DataItem). goes_on group.row other.row) middle ≡ true
    → goes_on group.row item.row ≡ true → list_any test (around (λ other. other.row) (ahead ++ group ∷ middle) item) ≡ false → test group ≡ false
group_lacks test [] group middle item goes holds h = (neither (test group) _ (rw (goes, holds) at h)).0
group_lacks test (x ∷ ahead) group middle item goes holds h =
    group_lacks test ahead group middle item goes holds
    (fewer (λ (other : DataItem). goes_on other.row item.row) test (list_all (λ (other : DataItem). goes_on x.row other.row) (ahead ++ group ∷ middle)) (goes_on x.row item.row) x (open_after (λ (other : DataItem). other.row) (ahead ++ group ∷ middle)) refl h)

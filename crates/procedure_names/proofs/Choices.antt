-- The 88 entries that are looked at for a reference, with their numbers, and which of them are chosen.
use Rattle.std.proofs.Common.{◌≡◌, ◌∙◌, refl, ap, subst, sym, arith, ℕ, ◌+◌, ◌<◌, ◌≤◌, Bool, true, List, [], ◌∷◌, ◌++◌, length, map, take, get_or}
use Rattle.std.specs.Prelude.{filter}
use Rattle.std.proofs.lemmas.List.{length-map, take_all}
use Rattle.cob_base.specs.declared.divisions.Front.{Front}
use Rattle.cob_base.specs.declared.operands.Reference.{Reference}
use Rattle.data_names.specs.Items.{DataItem}
use Rattle.data_names.specs.Names.{numbers_from}
use Rattle.data_names.specs.declared.table.Found.{Found}
use Rattle.data_names.specs.declared.table.Found.TheVariants.{Nothing, One, Several}
use Rattle.data_names.proofs.Opened.{map-filter}
use Rattle.data_names.proofs.Choices.{pairs_from, numbers_of_pairs, values_of_pairs, ArePlaced, are_placed, placed_filter, Chosen, chosen_at, turned, filter_covered, length-filter-take}
use Rattle.procedure_names.specs.Conditions.{NamedCondition, conditions, is_condition_match}
use Rattle.procedure_names.specs.ConditionNames.{IsCover}
use Rattle.procedure_names.specs.SeenConditions.{IsFoundCondition, IsAmongConditions, is_choice}

-- the 88 entries that pass, with their numbers
abbrev pub passing : List NamedCondition → (NamedCondition → Bool) → List (ℕ × NamedCondition)
passing all test = pairs_from 0 test all

-- what the first numbers of some that cover all matches come to
pub record SoFar (all : List NamedCondition) (reference : Reference) (numbers : List ℕ) (k : ℕ) (found : Found) : Type 0 where
  pub cover : IsCover all reference numbers
  pub among : IsAmongConditions (filter (is_choice reference) (take k (passing all cover.test))) found

pub none_so_far : (all : List NamedCondition) (reference : Reference) (numbers : List ℕ) → IsCover all reference numbers → SoFar all reference numbers 0 Nothing
none_so_far all reference numbers cover = record { cover = cover; among = refl }

-- those that match are those that pass and match
matching_is : (all : List NamedCondition) (reference : Reference) (test : NamedCondition → Bool) → ((one : NamedCondition) → is_condition_match reference one ≡ true → test one ≡ true)
    → filter (is_condition_match reference) all ≡ map (λ p. p.1) (filter (is_choice reference) (passing all test))
matching_is all reference test h =
    filter_covered (is_condition_match reference) test all h ∙ ap (filter (is_condition_match reference)) (sym (values_of_pairs 0 test all))
    ∙ sym (map-filter (λ (p : ℕ × NamedCondition). p.1) (is_condition_match reference) (passing all test))

-- what all that pass come to
found_all : (front : Front) (items : List DataItem) (reference : Reference) (test : NamedCondition → Bool) (found : Found) → ((one : NamedCondition) → is_condition_match reference one ≡ true → test one ≡ true)
    → IsAmongConditions (filter (is_choice reference) (passing (conditions front items) test)) found → IsFoundCondition front items reference found
found_all front items reference test Nothing c h = matching_is (conditions front items) reference test c ∙ ap (map (λ (p : ℕ × NamedCondition). p.1)) h
found_all front items reference test (One at) c h =
    let placed = placed_filter (conditions front items) (is_choice reference) _ (are_placed test (conditions front items)) in
    let one = subst (λ (pairs : List (ℕ × NamedCondition)). ArePlaced (conditions front items) pairs) h.1 placed in
    (h.0, one.0, matching_is (conditions front items) reference test c ∙ ap (map (λ (p : ℕ × NamedCondition). p.1)) h.1)
found_all front items reference test Several c h =
    rw (matching_is (conditions front items) reference test c)
    (omega (arith, h, length-map (filter (is_choice reference) (passing (conditions front items) test)) (λ (p : ℕ × NamedCondition). p.1)))

-- the numbers are those of the pairs
numbers_passing : (all : List NamedCondition) (test : NamedCondition → Bool) (numbers : List ℕ) → numbers ≡ numbers_from 0 test all → numbers ≡ map (λ (p : ℕ × NamedCondition). p.0) (passing all test)
numbers_passing all test numbers e = e ∙ sym (numbers_of_pairs 0 test all)

-- a turn at the number at place k
pub turn : (all : List NamedCondition) (reference : Reference) (numbers : List ℕ) (k : ℕ) (cover : IsCover all reference numbers) → k < length numbers → Chosen all (passing all cover.test) k (get_or numbers k 0)
turn all reference numbers k cover l =
    let pairs = passing all cover.test in
    let e = numbers_passing all cover.test numbers cover.numbers_are in
    let within : k < length pairs = omega (arith, ap length e, length-map pairs (λ (p : ℕ × NamedCondition). p.0)) in
    chosen_at all pairs k (get_or numbers k 0) (are_placed cover.test all) within (ap (λ ns. get_or ns k 0) e)

-- what the numbers come to after a turn
pub after_turn : (all : List NamedCondition) (reference : Reference) (numbers : List ℕ) (k : ℕ) (result : Found) (cover : IsCover all reference numbers) (t : Chosen all (passing all cover.test) k (get_or numbers k 0))
    → IsAmongConditions (filter (is_choice reference) (take k (passing all cover.test)) ++ filter (is_choice reference) ((get_or numbers k 0, t.one) ∷ [])) result
    → SoFar all reference numbers (k + 1) result
after_turn all reference numbers k result cover t h = record {
  cover = cover;
  among = subst (λ (some : List (ℕ × NamedCondition)). IsAmongConditions some result) (sym (turned all (passing all cover.test) k (get_or numbers k 0) (is_choice reference) t)) h;
}

-- once there are several, there are
pub several_all : (front : Front) (items : List DataItem) (reference : Reference) (numbers : List ℕ) (k : ℕ) (found : Found) → found ≡ Several → SoFar (conditions front items) reference numbers k found
    → IsFoundCondition front items reference found
several_all front items reference numbers k found e so_far =
    let test = so_far.cover.test in
    let some = rw e at so_far.among in
    let all : IsAmongConditions (filter (is_choice reference) (passing (conditions front items) test)) Several =
    omega (arith, some, length-filter-take (is_choice reference) k (passing (conditions front items) test)) in
    subst (λ (one : Found). IsFoundCondition front items reference one) (sym e) (found_all front items reference test Several so_far.cover.covers all)

-- what all numbers come to
pub all_so_far : (front : Front) (items : List DataItem) (reference : Reference) (numbers : List ℕ) (k : ℕ) (found : Found) → length numbers ≤ k → SoFar (conditions front items) reference numbers k found
    → IsFoundCondition front items reference found
all_so_far front items reference numbers k found l so_far =
    let test = so_far.cover.test in
    let pairs = passing (conditions front items) test in
    let e = numbers_passing (conditions front items) test numbers so_far.cover.numbers_are in
    let all : take k pairs ≡ pairs = take_all k pairs (omega (arith, ap length e, length-map pairs (λ (p : ℕ × NamedCondition). p.0), l)) in
    found_all front items reference test found so_far.cover.covers (subst (λ (some : List (ℕ × NamedCondition)). IsAmongConditions (filter (is_choice reference) some) found) all so_far.among)

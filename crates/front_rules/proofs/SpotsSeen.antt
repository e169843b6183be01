-- Faults of entries that the code holds in its own form, one after another.
use Rattle.std.proofs.Common.{◌≡◌, ◌∙◌, sym, ap, arith, ℕ, ◌+◌, ◌<◌, ◌≤◌, Bool, List, [], ◌++◌, map, length, take, drop, get_or}
use Rattle.std.specs.Prelude.{filter}
use Rattle.std.proofs.lemmas.List.{get_or-map, length-map, take_all}
use Rattle.cob_base.specs.declared.line.Line.{Line}
use Rattle.data_names.specs.Spots.{Spot, spots, spot_of}
use Rattle.name_rules.specs.declared.fault.Fault.{Fault}
use Rattle.name_rules.specs.Faults.{faults_at, fault_where}
use Rattle.name_rules.proofs.SpotsOf.{Placed, placed, noted_one, length-spots_after}

-- an entry of the code's list among the others
pub placed_seen : {K A : Type 0} (see : K → A) (xs : List K) (k : ℕ) (x : K) → k < length xs → x ≡ get_or xs k x → Placed (map see xs) k (see x)
placed_seen see xs k x h e =
    let within : k < length (map see xs) = omega (arith, h, length-map xs see) in
    placed (map see xs) k (see x) within (ap see e ∙ sym (get_or-map see xs k x (see x) h))

-- after the last one
pub all_seen : {K A : Type 0} (see : K → A) (xs : List K) (k : ℕ) → length xs ≤ k → take k (spots (map see xs)) ≡ spots (map see xs)
all_seen see xs k h = take_all k (spots (map see xs)) (omega (arith, length-spots_after [] (map see xs), length-map xs see, h))

-- one more is noted
pub noted_seen : {A : Type 0} (n : ℕ) (line : A → Line) (test : Spot A → Bool) (items : List A) (k : ℕ) (x : A) (b : Bool) (old mid new : List Fault) → (p : Placed items k x)
    → b ≡ test (spot_of (take k items) x (drop (k + 1) items))
    → mid ≡ old ++ faults_at n (map (λ spot. line spot.item) (filter test (take k (spots items))))
    → new ≡ mid ++ fault_where b n (line x)
    → new ≡ old ++ faults_at n (map (λ spot. line spot.item) (filter test (take (k + 1) (spots items))))
noted_seen n line test items k x b old mid new p t m e =
    let spot = spot_of (take k items) x (drop (k + 1) items) in
    rw p.more (noted_one n (λ (one : Spot _). line one.item) test (take k (spots items)) spot old mid new m (e ∙ ap (λ c. mid ++ fault_where c n (line x)) t))

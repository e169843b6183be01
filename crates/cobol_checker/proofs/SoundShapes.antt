-- The shape of each file of a program that keeps the rules is sound.
use Rattle.std.proofs.Common.{◌≡◌, ◌∙◌, refl, sym, ap, subst, arith, ℕ, ◌+◌, ◌==◌, Bool, true, false, ◌&&◌, ◌||◌, List, [], ◌∷◌, length, map, Option, Some}
use Rattle.std.specs.Prelude.{All, count_by, if◌then◌else◌}
use Rattle.std.specs.List.{AllByRecursion, list_any, filter_map}
use Rattle.std.proofs.lemmas.Bool.{eq-eqb}
use Rattle.std.proofs.lemmas.List.Elements.{All-from_recursion}
use Rattle.std.proofs.lemmas.List.Sorted.{All-permutation, sum_by-IsPermutation, length_permutation}
use Rattle.std.proofs.lemmas.List.Sums.{sum_by-cons}
use Rattle.cob_base.specs.declared.divisions.Front.{Front}
use Rattle.cob_base.specs.declared.file_entries.FileEntry.{FileEntry}
use Rattle.cob_base.specs.declared.operands.Reference.{Reference}
use Rattle.data_layout.specs.Storage.{storage}
use Rattle.data_names.specs.Items.{DataItem}
use Rattle.data_names.specs.Parts.{files}
use Rattle.data_names.specs.Spots.{Spot, rows_before, bytes_of}
use Rattle.data_names.specs.References.{found}
use Rattle.entry_clauses.specs.Clauses.{Alternate, alternates}
use Rattle.key_rules.specs.KeyPlaces.{placed_key, same_place, has_twins}
use Rattle.sharing_table.specs.declared.shape.KeyPlace.{KeyPlace}
use Rattle.sharing_table.specs.declared.shape.Shape.{Shape}
use Rattle.sharing_table.specs.Sound.{IsKeyOf, IsSamePlace, IsSoundShape}
use Rattle.cobol_checker.specs.Outcome.{CheckedValue, IsInProfile}
use Rattle.cobol_checker.specs.Shapes.{record_of, IsKeyPlace, AreKeyPlaces, IsShape, AreShapesOf}
use Rattle.cobol_checker.proofs.KeepsRules.{front_of}
use Rattle.cobol_checker.proofs.SoundKeys.{KeyGood}
use Rattle.cobol_checker.proofs.SoundFiles.{AllGood, Known, AllKnown, known_files}

neither : (a b : Bool) → (a || b) ≡ false → (a ≡ false) × (b ≡ false)
neither false false h = (refl, refl)
neither false true h = cc h
neither true b h = cc h

-- a key lies in the record
key_in : (front : Front) (items : List DataItem) (file : FileEntry) (number : ℕ) (key : Reference) (owner : Spot DataItem) (duplicates : Bool) (place : KeyPlace) → KeyGood front items file number key
    → record_of front items file ≡ Some owner → IsKeyPlace items (storage (rows_before owner)) key duplicates place → IsKeyOf (bytes_of owner) place
key_in front items file number key owner duplicates place g e p =
    let same : g.owner ≡ owner = cc (g.owner_is, e) in
    let spot : g.spot ≡ p.spot = cc (g.found_is, p.found_is) in
    let size : place.length ≡ bytes_of g.spot = p.length_is ∙ ap bytes_of (sym spot) in
    let offset : storage (rows_before owner) + place.offset ≡ storage (rows_before g.spot) = p.offset ∙ ap (λ (one : Spot DataItem). storage (rows_before one)) (sym spot) in
    let begins : storage (rows_before g.owner) ≡ storage (rows_before owner) = ap (λ (one : Spot DataItem). storage (rows_before one)) same in
    let bytes : bytes_of g.owner ≡ bytes_of owner = ap bytes_of same in
    record {
      some = omega (arith, size, g.some);
      few = omega (arith, size, g.inside.few);
      within = omega (arith, size, offset, begins, bytes, g.ends);
    }

keys_in : (front : Front) (items : List DataItem) (file : FileEntry) (number : ℕ) (owner : Spot DataItem) (others : List Alternate) (places : List KeyPlace) → AllGood front items file number (map (λ (one : Alternate). one.key) others)
    → record_of front items file ≡ Some owner → AreKeyPlaces items (storage (rows_before owner)) others places → AllByRecursion (IsKeyOf (bytes_of owner)) places
keys_in front items file number owner [] places g e p = subst (AllByRecursion (IsKeyOf (bytes_of owner))) (sym p) tt
keys_in front items file number owner (one ∷ others) [] g e p = absurd p
keys_in front items file number owner (one ∷ others) (place ∷ places) g e p =
    (key_in front items file number one.key owner one.duplicates place g.0 e p.0, keys_in front items file number owner others places g.1 e p.1)

-- there are as many places as alternates, and as many with duplicates
as_many : (items : List DataItem) (begins : ℕ) (others : List Alternate) (places : List KeyPlace) → AreKeyPlaces items begins others places → length places ≡ length others
as_many items begins [] places p = ap length p
as_many items begins (one ∷ others) [] p = absurd p
as_many items begins (one ∷ others) (place ∷ places) p = let rest = as_many items begins others places p.1 in omega (arith, rest)

one_for : Bool → ℕ
one_for b = if b then 1 else 0

as_many_twice : (items : List DataItem) (begins : ℕ) (others : List Alternate) (places : List KeyPlace) → AreKeyPlaces items begins others places
    → count_by (λ (place : KeyPlace). place.duplicates) places ≡ count_by (λ (one : Alternate). one.duplicates) others
as_many_twice items begins [] places p = ap (count_by (λ (place : KeyPlace). place.duplicates)) p
as_many_twice items begins (one ∷ others) [] p = absurd p
as_many_twice items begins (one ∷ others) (place ∷ places) p =
    sum_by-cons (λ (x : KeyPlace). if x.duplicates then 1 else 0) place places
    ∙ ap (λ (b : Bool). (if b then 1 else 0) + count_by (λ (x : KeyPlace). x.duplicates) places) p.0.duplicates_is
    ∙ ap (λ (n : ℕ). (if one.duplicates then 1 else 0) + n) (as_many_twice items begins others places p.1)
    ∙ sym (sum_by-cons (λ (x : Alternate). if x.duplicates then 1 else 0) one others)

-- ---- no alternate at the place of the prime key

apart_spots : (begins s t u v : ℕ) (prime place : KeyPlace) → begins + prime.offset ≡ s → begins + place.offset ≡ t → prime.length ≡ u → place.length ≡ v → ((s == t) && (u == v)) ≡ false → ¬ (IsSamePlace prime place)
apart_spots begins s t u v prime place so to us ve e same =
    let offset : prime.offset ≡ place.offset = same.0 in
    let size : prime.length ≡ place.length = same.1 in
    let offsets : s ≡ t = omega (arith, so, to, offset) in
    let lengths : u ≡ v = omega (arith, us, ve, size) in
    let both : ((s == t) && (u == v)) ≡ true = rw (eq-eqb s t offsets, eq-eqb u v lengths) refl in
    cc (e, both)

apart_from : (front : Front) (items : List DataItem) (file : FileEntry) (number begins : ℕ) (spot : Spot DataItem) (prime : KeyPlace) (others : List Alternate) (places : List KeyPlace)
    → AllGood front items file number (map (λ (one : Alternate). one.key) others) → AreKeyPlaces items begins others places → begins + prime.offset ≡ storage (rows_before spot) → prime.length ≡ bytes_of spot
    → list_any (same_place spot) (filter_map (λ (key : Reference). placed_key (Some number) (found items key)) (map (λ (one : Alternate). one.key) others)) ≡ false
    → AllByRecursion (λ (place : KeyPlace). ¬ (IsSamePlace prime place)) places
apart_from front items file number begins spot prime [] places g p o l h = subst (AllByRecursion (λ (place : KeyPlace). ¬ (IsSamePlace prime place))) (sym p) tt
apart_from front items file number begins spot prime (one ∷ others) [] g p o l h = absurd p
apart_from front items file number begins spot prime (one ∷ others) (place ∷ places) g p o l h =
    let parts = neither (same_place spot g.0.spot) _ (rw (g.0.found_is, g.0.placed) at h) in
    let same : g.0.spot ≡ p.0.spot = cc (g.0.found_is, p.0.found_is) in
    let offset : begins + place.offset ≡ storage (rows_before g.0.spot) = p.0.offset ∙ ap (λ (x : Spot DataItem). storage (rows_before x)) (sym same) in
    let size : place.length ≡ bytes_of g.0.spot = p.0.length_is ∙ ap bytes_of (sym same) in (
      apart_spots begins (storage (rows_before spot)) (storage (rows_before g.0.spot)) (bytes_of spot) (bytes_of g.0.spot) prime place o offset l size parts.0,
      apart_from front items file number begins spot prime others places g.1 p.1 o l parts.1,
    )

first_apart : (f : Reference → Option (Spot DataItem)) (key : Reference) (keys : List Reference) (spot : Spot DataItem) → f key ≡ Some spot → has_twins same_place (filter_map f (key ∷ keys)) ≡ false
    → list_any (same_place spot) (filter_map f keys) ≡ false
first_apart f key keys spot e h = (neither (list_any (same_place spot) (filter_map f keys)) _ (rw e at h)).0

-- ---- the shapes

shape_sound : (front : Front) (items : List DataItem) (file : FileEntry) (shape : Shape) → Known front items file → IsShape front items file shape → IsSoundShape shape
shape_sound front items file shape k s =
    let owner : k.prime.owner ≡ s.spot = cc (k.prime.owner_is, s.record_is) in
    let key : k.key ≡ s.key = cc (k.key_is, s.key_is) in
    let begins = storage (rows_before s.spot) in
    let good = subst (KeyGood front items file k.number) key k.prime in
    let prime = key_in front items file k.number s.key s.spot false shape.prime good s.record_is s.prime in
    let inside = All-from_recursion (IsKeyOf (bytes_of s.spot)) s.places (keys_in front items file k.number s.spot (alternates file.clauses) s.places k.others s.record_is s.places_are) in
    let bytes : bytes_of k.prime.owner ≡ bytes_of s.spot = ap bytes_of owner in
    let spot : good.spot ≡ s.prime.spot = cc (good.found_is, s.prime.found_is) in
    let offset : begins + shape.prime.offset ≡ storage (rows_before good.spot) = s.prime.offset ∙ ap (λ (x : Spot DataItem). storage (rows_before x)) (sym spot) in
    let size : shape.prime.length ≡ bytes_of good.spot = s.prime.length_is ∙ ap bytes_of (sym spot) in
    let others : List Reference = map (λ (one : Alternate). one.key) (alternates file.clauses) in
    let f : Reference → Option (Spot DataItem) = λ (one : Reference). placed_key (Some k.number) (found items one) in
    let placed : f s.key ≡ Some good.spot = ap (placed_key (Some k.number)) good.found_is ∙ good.placed in
    let twins = subst (λ (one : Reference). has_twins same_place (filter_map f (one ∷ others)) ≡ false) key k.twins in
    let apart = apart_from front items file k.number begins good.spot shape.prime (alternates file.clauses) s.places k.others s.places_are offset size (first_apart f s.key others good.spot placed twins) in
    record {
      record_few = omega (arith, s.length_is, bytes, k.prime.few);
      prime = subst (λ (n : ℕ). IsKeyOf n shape.prime) (sym s.length_is) prime;
      prime_is_unique = s.prime.duplicates_is;
      alternates = subst (λ (n : ℕ). All (IsKeyOf n) shape.alternates) (sym s.length_is) (All-permutation (IsKeyOf (bytes_of s.spot)) s.places shape.alternates s.same inside);
      count = omega (arith, k.few, length_permutation s.places shape.alternates s.same, as_many items begins (alternates file.clauses) s.places s.places_are);
      with_duplicates = omega (arith, k.duplicates, sum_by-IsPermutation (λ (x : KeyPlace). if x.duplicates then 1 else 0) s.places shape.alternates s.same, as_many_twice items begins (alternates file.clauses) s.places s.places_are);
      apart = All-permutation (λ (place : KeyPlace). ¬ (IsSamePlace shape.prime place)) s.places shape.alternates s.same (All-from_recursion (λ (place : KeyPlace). ¬ (IsSamePlace shape.prime place)) s.places apart);
      ascending = s.ascending;
    }

shapes_sound : (front : Front) (items : List DataItem) (all : List FileEntry) (shapes : List Shape) → AllKnown front items all → AreShapesOf front items all shapes → AllByRecursion IsSoundShape shapes
shapes_sound front items [] shapes k s = subst (AllByRecursion IsSoundShape) (sym s) tt
shapes_sound front items (file ∷ all) [] k s = absurd s
shapes_sound front items (file ∷ all) (shape ∷ shapes) k s = (shape_sound front items file shape k.0 s.0, shapes_sound front items all shapes k.1 s.1)

pub all_sound : (checked : CheckedValue) → IsInProfile checked → All IsSoundShape checked.shapes
all_sound checked h =
    let front = checked.program.front in
    All-from_recursion IsSoundShape checked.shapes
    (shapes_sound front h.keeps.items (files front) checked.shapes (known_files front h.keeps.items h.keeps.items_are (front_of checked.program h.keeps)) h.shapes_are)

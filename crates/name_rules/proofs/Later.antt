-- Faults of entries that an earlier one meets.
use Rattle.std.proofs.Common.{◌≡◌, ◌∙◌, refl, sym, ap, ℕ, ◌+◌, ◌<◌, Bool, true, false, List, [], ◌∷◌, ◌++◌, append_assoc, append-nil, map, length, take, get_or, Option, Some, None}
use Rattle.std.specs.Prelude.{if◌then◌else◌, filter, option_map}
use Rattle.std.specs.List.{list_all, list_any, last_or}
use Rattle.std.proofs.lemmas.List.{map-append, take_more}
use Rattle.cob_base.specs.declared.line.Line.{Line}
use Rattle.data_layout.specs.declared.row.Row.{Row}
use Rattle.data_layout.specs.Storage.{goes_on}
use Rattle.data_names.specs.Spots.{Spot, spots, spots_after, spot_of, open_after, around}
use Rattle.name_rules.specs.declared.fault.Fault.{Fault}
use Rattle.name_rules.specs.DoubleNames.{Declared, clashes, later_ones, Named, number_of_group, later_members}
use Rattle.name_rules.specs.SeenMembers.{member_of, are_twins}
use Rattle.name_rules.specs.Faults.{faults_at, fault_where}
use Rattle.name_rules.proofs.KeysOf.{any_map}
use Rattle.entry_clauses.proofs.ScreensOf.{list_all-map, chosen, filter-map}

-- the lines of those that pass, by those before them
abbrev pub tested_after : {A : Type 0} → (A → Line) → (List A → A → Bool) → List A → List A → List Line
tested_after line test before [] = []
tested_after line test before (x ∷ xs) = (if test before x then line x ∷ [] else []) ++ tested_after line test (before ++ x ∷ []) xs

picked : {S : Type 0} (f : S → Line) (b : Bool) (x : S) (xs : List S) → map f (if b then x ∷ xs else xs) ≡ (if b then f x ∷ [] else []) ++ map f xs
picked f true x xs = refl
picked f false x xs = refl

pub tested_spots : {A : Type 0} (line : A → Line) (test : List A → A → Bool) (before xs : List A)
    → map (λ spot. line spot.item) (filter (λ spot. test spot.before spot.item) (spots_after before xs)) ≡ tested_after line test before xs
tested_spots line test before [] = refl
tested_spots line test before (x ∷ xs) =
    picked (λ (spot : Spot _). line spot.item) (test before x) (spot_of before x xs) (filter (λ (spot : Spot _). test spot.before spot.item) (spots_after (before ++ x ∷ []) xs))
    ∙ ap (λ later. (if test before x then line x ∷ [] else []) ++ later) (tested_spots line test (before ++ x ∷ []) xs)

tested_snoc : {A : Type 0} (line : A → Line) (test : List A → A → Bool) (before xs : List A) (x : A)
    → tested_after line test before (xs ++ x ∷ []) ≡ tested_after line test before xs ++ (if test (before ++ xs) x then line x ∷ [] else [])
tested_snoc line test before [] x =
    append-nil (if test before x then line x ∷ [] else []) ∙ ap (λ some. if test some x then line x ∷ [] else []) (sym (append-nil before))
tested_snoc line test before (y ∷ xs) x =
    ap (λ later. (if test before y then line y ∷ [] else []) ++ later)
    (tested_snoc line test (before ++ y ∷ []) xs x
    ∙ ap (λ some. tested_after line test (before ++ y ∷ []) xs ++ (if test some x then line x ∷ [] else [])) (append_assoc before (y ∷ []) xs))
    ∙ sym (append_assoc (if test before y then line y ∷ [] else []) (tested_after line test (before ++ y ∷ []) xs) (if test (before ++ (y ∷ xs)) x then line x ∷ [] else []))

pub one_noted : (n : ℕ) (b : Bool) (line : Line) → fault_where b n line ≡ faults_at n (if b then line ∷ [] else [])
one_noted n true line = refl
one_noted n false line = refl

-- one more is noted
pub tested_more : {A : Type 0} (n : ℕ) (line : A → Line) (test : List A → A → Bool) (xs : List A) (at : ℕ) (x : A) (b : Bool) (old mid new : List Fault) → at < length xs → x ≡ get_or xs at x → b ≡ test (take at xs) x
    → mid ≡ old ++ faults_at n (tested_after line test [] (take at xs)) → new ≡ mid ++ fault_where b n (line x) → new ≡ old ++ faults_at n (tested_after line test [] (take (at + 1) xs))
tested_more n line test xs at x b old mid new h e t m k =
    let some = take at xs in
    let more : take (at + 1) xs ≡ some ++ x ∷ [] = take_more xs at x h ∙ ap (λ y. some ++ y ∷ []) (sym e) in
    k ∙ ap (λ front. front ++ fault_where b n (line x)) m
    ∙ ap (λ back. (old ++ faults_at n (tested_after line test [] some)) ++ back) (one_noted n b (line x) ∙ ap (λ c. faults_at n (if c then line x ∷ [] else [])) t)
    ∙ append_assoc old (faults_at n (tested_after line test [] some)) (faults_at n (if test some x then line x ∷ [] else []))
    ∙ ap (λ back. old ++ back) (sym (map-append _ (tested_after line test [] some) (if test some x then line x ∷ [] else [])))
    ∙ ap (λ lines. old ++ faults_at n lines) (sym (tested_snoc line test [] some x) ∙ sym (ap (tested_after line test []) more))

-- ---- declared names

pub later_ones_are : (names : List Declared) → later_ones names ≡ tested_after (λ one. one.line) (λ before one. list_any (λ earlier. clashes earlier one) before) [] names
later_ones_are names = tested_spots (λ (one : Declared). one.line) (λ (before : List Declared) (one : Declared). list_any (λ (earlier : Declared). clashes earlier one) before) [] names

-- ---- members of groups

abbrev pub is_twin : List Named → Named → Bool
is_twin before item = list_any (are_twins (member_of (spot_of before item []))) (map member_of (spots before))

same_filter : {A : Type 0} (p q : A → Bool) (xs : List A) → ((x : A) → p x ≡ q x) → filter p xs ≡ filter q xs
same_filter p q [] h = refl
same_filter p q (x ∷ xs) h = ap (λ b. if b then x ∷ filter p xs else filter p xs) (h x) ∙ ap (λ ys. if q x then x ∷ ys else ys) (same_filter p q xs h)

pub later_members_are : (entries : List Named) → later_members entries ≡ tested_after (λ one. one.row.line) is_twin [] entries
later_members_are entries =
    ap (map (λ (spot : Spot Named). spot.item.row.line))
    (same_filter _ (λ (spot : Spot Named). is_twin spot.before spot.item) (spots entries) (λ spot. sym (any_map member_of (are_twins (member_of spot)) (spots spot.before))))
    ∙ tested_spots (λ (one : Named). one.row.line) is_twin [] entries

members_after : (front before : List Named) (item : Named) → map member_of (spots_after front (before ++ item ∷ [])) ≡ map member_of (spots_after front before) ++ member_of (spot_of (front ++ before) item []) ∷ []
members_after front [] item = ap (λ some. member_of (spot_of some item []) ∷ []) (sym (append-nil front))
members_after front (first ∷ before) item =
    ap (λ later. member_of (spot_of front first before) ∷ later)
    (members_after (front ++ first ∷ []) before item
    ∙ ap (λ some. map member_of (spots_after (front ++ first ∷ []) before) ++ member_of (spot_of some item []) ∷ []) (append_assoc front (first ∷ []) before))

pub members_push : (before : List Named) (item : Named) → map member_of (spots (before ++ item ∷ [])) ≡ map member_of (spots before) ++ member_of (spot_of before item []) ∷ []
members_push before item = members_after [] before item

-- ---- the group of an entry that is named

open_after-map : {A B : Type 0} (f : A → B) (row : B → Row) (xs : List A) → open_after row (map f xs) ≡ map f (open_after (λ x. row (f x)) xs)
open_after-map f row [] = refl
open_after-map f row (x ∷ xs) =
    rw (list_all-map f (λ other. goes_on (row (f x)) (row other)) xs)
    (chosen f x (open_after (λ y. row (f y)) xs) (open_after row (map f xs)) (list_all (λ other. goes_on (row (f x)) (row (f other))) xs) (open_after-map f row xs))

last_named : {A : Type 0} (f : A → Named) (o : Option A) (p : Option Named) (xs : List A) → p ≡ option_map f o → number_of_group (last_or p (map f xs)) ≡ option_map (λ x. (f x).row.number) (last_or o xs)
last_named f None p [] e = rw e refl
last_named f (Some x) p [] e = rw e refl
last_named f o p (x ∷ xs) e = last_named f (Some x) (Some (f x)) xs refl

pub own_group_is : {A : Type 0} (f : A → Named) (before : List A) (item : A)
    → number_of_group (last_or None (around (λ (one : Named). one.row) (map f before) (f item))) ≡ option_map (λ x. (f x).row.number) (last_or None (around (λ x. (f x).row) before item))
own_group_is f before item =
    let own : Named → Row = λ (one : Named). one.row in
    let test : Named → Bool = λ (group : Named). goes_on group.row (f item).row in
    ap (λ some. number_of_group (last_or None (filter test some))) (open_after-map f own before)
    ∙ ap (λ some. number_of_group (last_or None some)) (filter-map f test (open_after (λ x. own (f x)) before))
    ∙ last_named f None None (filter (λ x. test (f x)) (open_after (λ x. own (f x)) before)) refl

-- Items of a name with their numbers, and which of them are chosen.
use Rattle.std.proofs.Common.{◌≡◌, ◌∙◌, refl, ap, subst, sym, arith, ℕ, zero, suc, ◌+◌, ◌<◌, ◌≤◌, Bool, true, false, ◌&&◌, ◌||◌, List, [], ◌∷◌, ◌++◌, length, map, reverse, take, get_or, add-one, Option, Some, None}
use Rattle.std.specs.Prelude.{if◌then◌else◌, filter, slice_get}
use Rattle.data_names.specs.Items.{DataItem}
use Rattle.data_names.specs.Spots.{Spot, spots, spots_after}
use Rattle.data_names.specs.References.{same_name, is_called, is_qualified, names_around, is_match, matching}
use Rattle.data_names.specs.declared.table.Found.{Found}
use Rattle.data_names.specs.declared.table.Found.TheVariants.{Nothing, One, Several}
use Rattle.data_names.specs.Table.{IsFound, IsAmong, is_choice}
use Rattle.data_names.proofs.Opened.{map-filter}
use Rattle.std.proofs.lemmas.List.{length-map}
use Rattle.std.proofs.lemmas.List.Elements.{filter-append}
use Rattle.std.specs.List.{list_any}
use Rattle.std.specs.Str.{bytes_eq}
use Rattle.std.specs.Cmp.Lexicographic.{bytes_decides, nat_list_eq_equiv}
use Rattle.std.proofs.lemmas.Bool.{false≢true}
use Rattle.data_names.specs.declared.asked.AskedPairs.{AskedPairs}
use Rattle.data_names.specs.Asked.{is_asked, is_name_asked}
use Rattle.data_names.specs.Names.{numbers_from, is_under, in_small, pair_key}
use Rattle.data_names.specs.Pairs.{IsCover, is_pair, is_in, is_under_pair, is_kept}

-- those that pass, with their numbers
abbrev pub pairs_from : {A : Type 0} → ℕ → (A → Bool) → List A → List (ℕ × A)
pairs_from n test [] = []
pairs_from n test (x ∷ xs) = if test x then (n, x) ∷ pairs_from (n + 1) test xs else pairs_from (n + 1) test xs

numbers_step : {A : Type 0} (b : Bool) (n : ℕ) (x : A) (pairs : List (ℕ × A)) (numbers : List ℕ) → map (λ p. p.0) pairs ≡ numbers
    → map (λ p. p.0) (if b then (n, x) ∷ pairs else pairs) ≡ (if b then n ∷ numbers else numbers)
numbers_step true n x pairs numbers e = ap (λ ns. n ∷ ns) e
numbers_step false n x pairs numbers e = e

pub numbers_of_pairs : {A : Type 0} (n : ℕ) (test : A → Bool) (xs : List A) → map (λ p. p.0) (pairs_from n test xs) ≡ numbers_from n test xs
numbers_of_pairs n test [] = refl
numbers_of_pairs n test (x ∷ xs) = numbers_step (test x) n x (pairs_from (n + 1) test xs) (numbers_from (n + 1) test xs) (numbers_of_pairs (n + 1) test xs)

values_step : {A : Type 0} (b : Bool) (n : ℕ) (x : A) (pairs : List (ℕ × A)) (xs : List A) → map (λ p. p.1) pairs ≡ xs
    → map (λ p. p.1) (if b then (n, x) ∷ pairs else pairs) ≡ (if b then x ∷ xs else xs)
values_step true n x pairs xs e = ap (λ ys. x ∷ ys) e
values_step false n x pairs xs e = e

pub values_of_pairs : {A : Type 0} (n : ℕ) (test : A → Bool) (xs : List A) → map (λ p. p.1) (pairs_from n test xs) ≡ filter test xs
values_of_pairs n test [] = refl
values_of_pairs n test (x ∷ xs) = values_step (test x) n x (pairs_from (n + 1) test xs) (filter test xs) (values_of_pairs (n + 1) test xs)

-- each pair is one of the list
abbrev pub ArePlaced : {A : Type 0} → List A → List (ℕ × A) → Type 0
ArePlaced all [] = Unit {0}
ArePlaced all (p ∷ pairs) = (slice_get all p.0 ≡ Some p.1) × ArePlaced all pairs

placed_step : {A : Type 0} (all : List A) (b : Bool) (n : ℕ) (x : A) (pairs : List (ℕ × A)) → slice_get all n ≡ Some x → ArePlaced all pairs → ArePlaced all (if b then (n, x) ∷ pairs else pairs)
placed_step all true n x pairs e h = (e, h)
placed_step all false n x pairs e h = h

pub placed_from : {A : Type 0} (test : A → Bool) (all xs : List A) (n : ℕ) → ((k : ℕ) (x : A) → slice_get xs k ≡ Some x → slice_get all (n + k) ≡ Some x) → ArePlaced all (pairs_from n test xs)
placed_from test all [] n h = tt
placed_from test all (x ∷ xs) n h =
    let here : n + 0 ≡ n = omega arith in
    placed_step all (test x) n x (pairs_from (n + 1) test xs) (subst (λ (m : ℕ). slice_get all m ≡ Some x) here (h 0 x refl))
    (placed_from test all xs (n + 1) (λ k y e. let later : n + suc k ≡ (n + 1) + k = omega arith in subst (λ (m : ℕ). slice_get all m ≡ Some y) later (h (suc k) y e)))

-- each stands at its number
pub are_placed : {A : Type 0} (test : A → Bool) (all : List A) → ArePlaced all (pairs_from 0 test all)
are_placed test all = placed_from test all all 0 (λ k x e. let same : k ≡ 0 + k = omega arith in subst (λ (m : ℕ). slice_get all m ≡ Some x) same e)

-- the pair of a number at a place
pub record Chosen {A : Type 0} (all : List A) (pairs : List (ℕ × A)) (k at : ℕ) : Type 0 where
  pub one : A
  pub more : take (suc k) pairs ≡ take k pairs ++ (at, one) ∷ []
  pub placed : slice_get all at ≡ Some one

pub chosen_at : {A : Type 0} (all : List A) (pairs : List (ℕ × A)) (k at : ℕ) → ArePlaced all pairs → k < length pairs → at ≡ get_or (map (λ p. p.0) pairs) k 0 → Chosen all pairs k at
chosen_at all [] k at h l e = absurd (omega arith)
chosen_at all (p ∷ pairs) zero at h l e = record {
  one = p.1;
  more = rw e refl;
  placed = rw e h.0;
}
chosen_at all (p ∷ pairs) (suc k) at h l e =
    let rest = chosen_at all pairs k at h.1 (omega arith) e in record {
      one = rest.one;
      more = ap (λ ys. p ∷ ys) rest.more;
      placed = rest.placed;
    }

-- ---- the items of a name

same_choice : (b : Bool) (n : ℕ) (xs ys : List ℕ) → xs ≡ ys → (if b then n ∷ xs else xs) ≡ (if b then n ∷ ys else ys)
same_choice b n xs ys e = ap (λ zs. if b then n ∷ zs else zs) e

pub numbers_of_spots : {A : Type 0} (n : ℕ) (test : A → Bool) (before items : List A) → numbers_from n (λ spot. test spot.item) (spots_after before items) ≡ numbers_from n test items
numbers_of_spots n test before [] = refl
numbers_of_spots n test before (x ∷ items) = same_choice (test x) n _ _ (numbers_of_spots (n + 1) test (before ++ x ∷ []) items)

covered_step : {A : Type 0} (a b : Bool) (p : A → Bool) (x : A) (xs ys : List A) → p x ≡ a → (a ≡ true → b ≡ true) → filter p xs ≡ filter p ys
    → (if a then x ∷ filter p xs else filter p xs) ≡ filter p (if b then x ∷ ys else ys)
covered_step true true p x xs ys e h k = rw e (ap (λ zs. x ∷ zs) k)
covered_step true false p x xs ys e h k = absurd (false≢true (h refl))
covered_step false true p x xs ys e h k = rw e k
covered_step false false p x xs ys e h k = k

-- choosing among some that have all that pass
pub filter_covered : {A : Type 0} (p test : A → Bool) (xs : List A) → ((x : A) → p x ≡ true → test x ≡ true) → filter p xs ≡ filter p (filter test xs)
filter_covered p test [] h = refl
filter_covered p test (x ∷ xs) h = covered_step (p x) (test x) p x xs (filter test xs) refl (h x) (filter_covered p test xs h)

-- a name is called so where it is under it in small letters
pub called_is_under : (name : List ℕ) (other : Option (List ℕ)) → is_called name other ≡ is_under (in_small name) other
called_is_under name None = refl
called_is_under name (Some other) = refl

pub length-filter-take : {A : Type 0} (test : A → Bool) (k : ℕ) (xs : List A) → length (filter test (take k xs)) ≤ length (filter test xs)
length-filter-take test zero xs = omega arith
length-filter-take test (suc k) [] = omega arith
length-filter-take test (suc k) (x ∷ xs) = counted (test x) x _ _ (length-filter-take test k xs)
  where
    counted : {B : Type 0} (b : Bool) (y : B) (some all : List B) → length some ≤ length all → length (if b then y ∷ some else some) ≤ length (if b then y ∷ all else all)
    counted true y some all h = omega arith
    counted false y some all h = h

-- ---- a table

-- the items that pass, with their numbers
abbrev pub passing : List DataItem → (Spot DataItem → Bool) → List (ℕ × Spot DataItem)
passing items test = pairs_from 0 test (spots items)

-- the numbers under a name are those of the items of that name
pub numbers_named : (items : List DataItem) (key : List ℕ) → numbers_from 0 (λ item. is_under key item.text.name) items ≡ numbers_from 0 (λ spot. is_under key spot.item.text.name) (spots items)
numbers_named items key = sym (numbers_of_spots 0 (λ (item : DataItem). is_under key item.text.name) [] items)

-- those that match are those that pass and match
pub matching_is : (items : List DataItem) (name : List ℕ) (qualifiers : List (List ℕ)) (test : Spot DataItem → Bool) → ((spot : Spot DataItem) → is_match name qualifiers spot ≡ true → test spot ≡ true)
    → matching items name qualifiers ≡ map (λ p. p.1) (filter (is_choice name qualifiers) (passing items test))
matching_is items name qualifiers test h =
    filter_covered (is_match name qualifiers) test (spots items) h ∙ ap (filter (is_match name qualifiers)) (sym (values_of_pairs 0 test (spots items)))
    ∙ sym (map-filter (λ (p : ℕ × Spot DataItem). p.1) (is_match name qualifiers) (passing items test))

-- a pair that is left stands at its number
pub placed_filter : {A : Type 0} (all : List A) (test : ℕ × A → Bool) (pairs : List (ℕ × A)) → ArePlaced all pairs → ArePlaced all (filter test pairs)
placed_filter all test [] h = tt
placed_filter all test (p ∷ pairs) h = kept_or_not all (test p) p _ h.0 (placed_filter all test pairs h.1)
  where
    kept_or_not : {B : Type 0} (every : List B) (b : Bool) (q : ℕ × B) (rest : List (ℕ × B)) → slice_get every q.0 ≡ Some q.1 → ArePlaced every rest → ArePlaced every (if b then q ∷ rest else rest)
    kept_or_not every true q rest e k = (e, k)
    kept_or_not every false q rest e k = k

-- what all pairs come to
pub found_all : (items : List DataItem) (name : List ℕ) (qualifiers : List (List ℕ)) (test : Spot DataItem → Bool) (found : Found) → ((spot : Spot DataItem) → is_match name qualifiers spot ≡ true → test spot ≡ true)
    → IsAmong (filter (is_choice name qualifiers) (passing items test)) found → IsFound items name qualifiers found
found_all items name qualifiers test Nothing c h = matching_is items name qualifiers test c ∙ ap (map (λ (p : ℕ × Spot DataItem). p.1)) h
found_all items name qualifiers test (One at) c h =
    let placed = placed_filter (spots items) (is_choice name qualifiers) _ (are_placed test (spots items)) in
    let one = subst (λ (pairs : List (ℕ × Spot DataItem)). ArePlaced (spots items) pairs) h.1 placed in
    (h.0, one.0, matching_is items name qualifiers test c ∙ ap (map (λ (p : ℕ × Spot DataItem). p.1)) h.1)
found_all items name qualifiers test Several c h =
    rw (matching_is items name qualifiers test c) (omega (arith, h, length-map (filter (is_choice name qualifiers) (passing items test)) (λ (p : ℕ × Spot DataItem). p.1)))

-- the numbers are those of the pairs
pub numbers_passing : (items : List DataItem) (test : Spot DataItem → Bool) (numbers : List ℕ) → numbers ≡ numbers_from 0 test (spots items) → numbers ≡ map (λ (p : ℕ × Spot DataItem). p.0) (passing items test)
numbers_passing items test numbers e = e ∙ sym (numbers_of_pairs 0 test (spots items))

-- a turn at the number at place k
pub turn : (items : List DataItem) (test : Spot DataItem → Bool) (numbers : List ℕ) (k : ℕ) → numbers ≡ map (λ (p : ℕ × Spot DataItem). p.0) (passing items test) → k < length numbers
    → Chosen (spots items) (passing items test) k (get_or numbers k 0)
turn items test numbers k e l =
    let pairs = passing items test in
    let within : k < length pairs = omega (arith, ap length e, length-map pairs (λ (p : ℕ × Spot DataItem). p.0)) in
    chosen_at (spots items) pairs k (get_or numbers k 0) (are_placed test (spots items)) within (ap (λ ns. get_or ns k 0) e)

pub turned : {A : Type 0} (all : List A) (pairs : List (ℕ × A)) (k at : ℕ) (test : ℕ × A → Bool) (t : Chosen all pairs k at) → filter test (take (k + 1) pairs) ≡ filter test (take k pairs) ++ filter test ((at, t.one) ∷ [])
turned all pairs k at test t = let next : k + 1 ≡ suc k = add-one k in rw next (ap (filter test) t.more ∙ filter-append test (take k pairs) ((at, t.one) ∷ []))

-- what the numbers come to after a turn
pub after_turn : (items : List DataItem) (test : Spot DataItem → Bool) (numbers : List ℕ) (k : ℕ) (name : List ℕ) (qualifiers : List (List ℕ)) (result : Found) (t : Chosen (spots items) (passing items test) k (get_or numbers k 0))
    → IsAmong (filter (is_choice name qualifiers) (take k (passing items test)) ++ filter (is_choice name qualifiers) ((get_or numbers k 0, t.one) ∷ [])) result
    → IsAmong (filter (is_choice name qualifiers) (take (k + 1) (passing items test))) result
after_turn items test numbers k name qualifiers result t h =
    subst (λ (some : List (ℕ × Spot DataItem)). IsAmong some result) (sym (turned (spots items) (passing items test) k (get_or numbers k 0) (is_choice name qualifiers) t)) h

-- several among the first are several among all
pub several_all : (items : List DataItem) (name : List ℕ) (qualifiers : List (List ℕ)) (test : Spot DataItem → Bool) (k : ℕ) (result : Found) → ((spot : Spot DataItem) → is_match name qualifiers spot ≡ true → test spot ≡ true) → result ≡ Several
    → IsAmong (filter (is_choice name qualifiers) (take k (passing items test))) result → IsFound items name qualifiers result
several_all items name qualifiers test k result c e h =
    let some = rw e at h in
    let all : IsAmong (filter (is_choice name qualifiers) (passing items test)) Several = omega (arith, some, length-filter-take (is_choice name qualifiers) k (passing items test)) in
    subst (λ (found : Found). IsFound items name qualifiers found) (sym e) (found_all items name qualifiers test Several c all)

-- ---- covers

-- the items of a name are among those under it
pub named_cover : (items : List DataItem) (name : List ℕ) (qualifiers : List (List ℕ)) (numbers : List ℕ) → numbers ≡ numbers_from 0 (λ item. is_under (in_small name) item.text.name) items → IsCover items name qualifiers numbers
named_cover items name qualifiers numbers e = record {
  test = λ (spot : Spot DataItem). is_under (in_small name) spot.item.text.name;
  numbers_are = e ∙ numbers_named items (in_small name);
  covers = λ spot h. sym (called_is_under name spot.item.text.name) ∙ first_holds (is_called name spot.item.text.name) (is_qualified qualifiers (reverse (names_around spot))) h;
}
  where
    first_holds : (a b : Bool) → (a && b) ≡ true → a ≡ true
    first_holds true b h = refl
    first_holds false b h = absurd (false≢true h)

same_key : (name other group inner : List ℕ) → same_name other name ≡ true → same_name inner group ≡ true → bytes_eq (pair_key other inner) (pair_key name group) ≡ true
same_key name other group inner e h =
    let first : in_small other ≡ in_small name = (bytes_decides (in_small other) (in_small name)).0 e in
    let second : in_small inner ≡ in_small group = (bytes_decides (in_small inner) (in_small group)).0 h in
    let keys : pair_key other inner ≡ pair_key name group = ap (λ (front : List ℕ). front ++ (32 ∷ in_small inner)) first ∙ ap (λ (back : List ℕ). in_small name ++ (32 ∷ back)) second in
    ap (λ (key : List ℕ). bytes_eq key (pair_key name group)) keys ∙ nat_list_eq_equiv.refl (pair_key name group)

or_true : (a b : Bool) → b ≡ true → (a || b) ≡ true
or_true true b h = refl
or_true false b h = h

-- what the first qualifier leaves for the others
each_step : (qualifier : List ℕ) (others : List (List ℕ)) (group : Option (List ℕ)) (groups : List (Option (List ℕ))) (i : ℕ) (d : List ℕ) (b : Bool) → is_called qualifier group ≡ b → i < length (qualifier ∷ others)
    → (if b then is_qualified others groups else is_qualified (qualifier ∷ others) groups) ≡ true
    → ((j : ℕ) → j < length others → is_qualified others groups ≡ true → list_any (is_called (get_or others j d)) groups ≡ true)
    → (is_qualified (qualifier ∷ others) groups ≡ true → list_any (is_called (get_or (qualifier ∷ others) i d)) groups ≡ true)
    → (is_called (get_or (qualifier ∷ others) i d) group || list_any (is_called (get_or (qualifier ∷ others) i d)) groups) ≡ true
each_step qualifier others group groups zero d true e l h here later = ap (λ (b : Bool). b || list_any (is_called qualifier) groups) e
each_step qualifier others group groups (suc j) d true e l h here later = or_true (is_called (get_or others j d) group) (list_any (is_called (get_or others j d)) groups) (here j (omega arith) h)
each_step qualifier others group groups i d false e l h here later =
    or_true (is_called (get_or (qualifier ∷ others) i d) group) (list_any (is_called (get_or (qualifier ∷ others) i d)) groups) (later h)

-- each of the qualifiers is the name of one of the groups
pub each_called : (qualifiers : List (List ℕ)) (groups : List (Option (List ℕ))) (i : ℕ) (d : List ℕ) → i < length qualifiers → is_qualified qualifiers groups ≡ true
    → list_any (is_called (get_or qualifiers i d)) groups ≡ true
each_called [] groups i d l h = absurd (omega arith)
each_called (qualifier ∷ others) [] i d l h = absurd (false≢true h)
each_called (qualifier ∷ others) (group ∷ groups) i d l h =
    each_step qualifier others group groups i d (is_called qualifier group) refl l h (λ j k q. each_called others groups j d k q) (λ q. each_called (qualifier ∷ others) groups i d l q)

called_step : (name other group inner : List ℕ) (groups : List (Option (List ℕ))) (b : Bool) → same_name other name ≡ true → same_name inner group ≡ b → (b || list_any (is_called group) groups) ≡ true
    → (list_any (is_called group) groups ≡ true → list_any (is_pair (pair_key name group) other) groups ≡ true)
    → (bytes_eq (pair_key other inner) (pair_key name group) || list_any (is_pair (pair_key name group) other) groups) ≡ true
called_step name other group inner groups true e s h later = ap (λ (b : Bool). b || list_any (is_pair (pair_key name group) other) groups) (same_key name other group inner e s)
called_step name other group inner groups false e s h later = or_true (bytes_eq (pair_key other inner) (pair_key name group)) (list_any (is_pair (pair_key name group) other) groups) (later h)

-- where one of the groups has a name, the key is that of one of the groups
pub called_pair : (name other group : List ℕ) (groups : List (Option (List ℕ))) → same_name other name ≡ true → list_any (is_called group) groups ≡ true
    → list_any (is_pair (pair_key name group) other) groups ≡ true
called_pair name other group [] e h = absurd (false≢true h)
called_pair name other group (None ∷ groups) e h = called_pair name other group groups e h
called_pair name other group (Some inner ∷ groups) e h =
    called_step name other group inner groups (same_name inner group) e refl h (λ q. called_pair name other group groups e q)

-- a qualifier with the name is the pair of an item that matches
under_pair : (name : List ℕ) (qualifiers : List (List ℕ)) (i : ℕ) (d : List ℕ) (called : Option (List ℕ)) (groups : List (Option (List ℕ))) → i < length qualifiers → (is_called name called && is_qualified qualifiers groups) ≡ true
    → is_in (pair_key name (get_or qualifiers i d)) called groups ≡ true
under_pair name qualifiers i d None groups l h = absurd (false≢true h)
under_pair name qualifiers i d (Some other) groups l h = both (same_name other name) refl h
  where
    both : (b : Bool) → same_name other name ≡ b → (b && is_qualified qualifiers groups) ≡ true → list_any (is_pair (pair_key name (get_or qualifiers i d)) other) groups ≡ true
    both true s k = called_pair name other (get_or qualifiers i d) groups s (each_called qualifiers groups i d l k)
    both false s k = absurd (false≢true k)

-- where a name is asked for, it is under each spelling of it
asked_called : (asked : AskedPairs) (name : List ℕ) (called : Option (List ℕ)) (rest : Bool) → is_asked asked (in_small name) ≡ true → (is_called name called && rest) ≡ true → is_name_asked asked called ≡ true
asked_called asked name None rest a h = absurd (false≢true h)
asked_called asked name (Some other) rest a h = spelled (same_name other name) refl h
  where
    spelled : (b : Bool) → same_name other name ≡ b → (b && rest) ≡ true → is_asked asked (in_small other) ≡ true
    spelled true s k = ap (is_asked asked) ((bytes_decides (in_small other) (in_small name)).0 s) ∙ a
    spelled false s k = absurd (false≢true k)

pub three_true : (a b c : Bool) → a ≡ true → b ≡ true → c ≡ true → (a && (b && c)) ≡ true
three_true true true c d e f = f
three_true true false c d e f = absurd (false≢true e)
three_true false b c d e f = absurd (false≢true d)

-- the items that match are among those under the pair of the name and one of the qualifiers, where both are asked for
pub paired_cover : (items : List DataItem) (asked : AskedPairs) (name : List ℕ) (qualifiers : List (List ℕ)) (i : ℕ) (d : List ℕ) (numbers : List ℕ) → i < length qualifiers → is_asked asked (in_small name) ≡ true
    → is_asked asked (pair_key name (get_or qualifiers i d)) ≡ true → numbers ≡ numbers_from 0 (is_kept asked (pair_key name (get_or qualifiers i d))) (spots items) → IsCover items name qualifiers numbers
paired_cover items asked name qualifiers i d numbers l n p e = record {
  test = is_kept asked (pair_key name (get_or qualifiers i d));
  numbers_are = e;
  covers = λ spot h.
      three_true (is_name_asked asked spot.item.text.name) (is_under_pair (pair_key name (get_or qualifiers i d)) spot) (is_asked asked (pair_key name (get_or qualifiers i d)))
      (asked_called asked name spot.item.text.name (is_qualified qualifiers (reverse (names_around spot))) n h)
      (under_pair name qualifiers i d spot.item.text.name (reverse (names_around spot)) l h) p;
}

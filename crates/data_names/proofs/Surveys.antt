-- What the open groups say of the next item, and what is known after it.
use Rattle.std.proofs.Common.{◌≡◌, ◌&&◌, ◌<◌, ◌+◌, suc, None, refl, sym, ◌∙◌, ap, subst, Bool, true, false, cond, ℕ, List, [], ◌∷◌, ◌++◌, map, reverse, length, take, drop, get_or, zero, Some, arith}
use Rattle.std.specs.Prelude.{◌≤◌, if◌then◌else◌, filter, option_map, slice_get}
use Rattle.std.specs.List.{list_any, list_all, last_or, take-map, drop-map}
use Rattle.std.proofs.lemmas.Simd.{map-map}
use Rattle.std.proofs.lemmas.List.{map-append, get_or-map, take_more, length-map, length-take}
use Rattle.std.proofs.lemmas.List.Folds.{list_all-append}
use Rattle.std.proofs.lemmas.List.Sums.{sum_by-cons, sum_by-append, count_by-le-length}
use Rattle.data_layout.specs.declared.row.Row.{Row}
use Rattle.data_layout.specs.Storage.{goes_on}
use Rattle.data_layout.specs.Faults.{has_size}
use Rattle.data_names.specs.declared.facts.OpenGroup.{OpenGroup}
use Rattle.data_names.specs.Items.{DataItem}
use Rattle.data_names.specs.declared.facts.Facts.{Facts}
use Rattle.data_names.specs.Spots.{Spot, spots, spots_after, spot_of, open_after, around}
use Rattle.data_names.specs.declared.known.KnownItem.{KnownItem}
use Rattle.data_names.specs.Seen.{seen_item, seen_name}
use Rattle.data_names.specs.Facts.{has_bytes, count_with_bytes, IsFacts, AreFactsOf}
use Rattle.data_names.specs.Survey.{Group, group_of, seen_group}
use Rattle.data_names.proofs.Opened.{open_after-push, map-filter, list_any-map, last_or-map, spots-more, map-reverse}

abbrev pub row_of : DataItem → Row
row_of item = item.row

-- the groups that are kept open are those of the item
pub kept : (before : List DataItem) (item : DataItem) (groups left : List OpenGroup) → left ≡ filter (λ group. goes_on group.row item.row) groups
    → map seen_group groups ≡ map group_of (open_after (λ other. other.row) before) → map seen_group left ≡ map group_of (around (λ other. other.row) before item)
kept before item groups left e h =
    ap (map seen_group) e ∙ map-filter seen_group (λ (group : Group). goes_on group.row item.row) groups ∙ ap (filter (λ (group : Group). goes_on group.row item.row)) h
    ∙ sym (map-filter group_of (λ (group : Group). goes_on group.row item.row) (open_after (λ other. other.row) before))

pub same_map : {B : Type 0} (f : Group → B) (left : List OpenGroup) (items : List DataItem) → map seen_group left ≡ map group_of items
    → map (λ group. f (seen_group group)) left ≡ map (λ item. f (group_of item)) items
same_map f left items h = sym (map-map f seen_group left) ∙ ap (map f) h ∙ map-map f group_of items

pub same_any : (p : Group → Bool) (left : List OpenGroup) (items : List DataItem) → map seen_group left ≡ map group_of items
    → list_any (λ group. p (seen_group group)) left ≡ list_any (λ item. p (group_of item)) items
same_any p left items h = sym (list_any-map seen_group p left) ∙ ap (list_any p) h ∙ list_any-map group_of p items

pub same_last : {B : Type 0} (f : Group → B) (left : List OpenGroup) (items : List DataItem) → map seen_group left ≡ map group_of items
    → option_map (λ group. f (seen_group group)) (last_or None left) ≡ option_map (λ item. f (group_of item)) (last_or None items)
same_last f left items h =
    sym (last_or-map (λ group. f (seen_group group)) left) ∙ ap (last_or None) (same_map f left items h) ∙ last_or-map (λ item. f (group_of item)) items

pub sized-push : (rows : List Row) (row : Row) (sized : Bool) → sized ≡ list_all has_size rows → (sized && has_size row) ≡ list_all has_size (rows ++ row ∷ [])
sized-push rows row sized e = rw (e, list_all-append has_size rows (row ∷ [])) (and_true (list_all has_size rows) (has_size row))
  where
    and_true : (a b : Bool) → (a && b) ≡ (a && (b && true))
    and_true true true = refl
    and_true true false = refl
    and_true false b = refl

-- one more row counts where it has bytes
pub counted-push : (rows : List Row) (row : Row) (n : ℕ) → n ≡ count_with_bytes rows → n + (if has_bytes row then 1 else 0) ≡ count_with_bytes (rows ++ row ∷ [])
counted-push rows row n e =
    let one : count_with_bytes (row ∷ []) ≡ (if has_bytes row then 1 else 0) + 0 = sum_by-cons (λ (other : Row). cond (has_bytes other) 1 0) row [] in
    let all : count_with_bytes (rows ++ row ∷ []) ≡ count_with_bytes rows + count_with_bytes (row ∷ []) = sum_by-append (λ (other : Row). cond (has_bytes other) 1 0) rows (row ∷ []) in
    omega (arith, e, one, all)

-- no more than there are items
pub counted_few : (xs : List KnownItem) (k n : ℕ) → k < length xs → n ≡ count_with_bytes (map row_of (map seen_item (take k xs))) → n ≤ k
counted_few xs k n h e =
    omega (arith, e, count_by-le-length has_bytes (map row_of (map seen_item (take k xs))), length-map (map seen_item (take k xs)) row_of, length-map (take k xs) seen_item, length-take k xs)

-- the groups after the item
pub groups-push : (before : List DataItem) (item : DataItem) (left : List OpenGroup) (group : OpenGroup) → map seen_group left ≡ map group_of (around (λ other. other.row) before item)
    → seen_group group ≡ group_of item → map seen_group (left ++ group ∷ []) ≡ map group_of (open_after (λ other. other.row) (before ++ item ∷ []))
groups-push before item left group h e =
    rw (open_after-push (λ (other : DataItem). other.row) before item, map-append group_of (around (λ other. other.row) before item) (item ∷ []), map-append seen_group left (group ∷ []), h, e) refl

-- the facts of one more item
pub AreFactsOf-push : (spots : List (Spot DataItem)) (facts : List Facts) (spot : Spot DataItem) (one : Facts) → AreFactsOf spots facts → IsFacts spot one → AreFactsOf (spots ++ spot ∷ []) (facts ++ one ∷ [])
AreFactsOf-push [] facts spot one h k = rw h (k, refl)
AreFactsOf-push (first ∷ spots) [] spot one h k = absurd h
AreFactsOf-push (first ∷ spots) (fact ∷ facts) spot one h k = (h.0, AreFactsOf-push spots facts spot one h.1 k)

-- ---- the items as the code holds them

-- a step at an item of the code's list
pub record Step (xs : List KnownItem) (k : ℕ) (x : KnownItem) : Type 0 where
  pub more : map seen_item (take (k + 1) xs) ≡ map seen_item (take k xs) ++ seen_item x ∷ []
  pub spots_more : take (k + 1) (spots (map seen_item xs)) ≡ take k (spots (map seen_item xs)) ++ spot_of (map seen_item (take k xs)) (seen_item x) (map seen_item (drop (k + 1) xs)) ∷ []

pub step_at : (xs : List KnownItem) (k : ℕ) (x : KnownItem) → k < length xs → x ≡ get_or xs k x → Step xs k x
step_at xs k x h e =
    let items : List DataItem = map seen_item xs in
    let within : k < length items = rw length-map h in
    let at : seen_item x ≡ get_or items k (seen_item x) = ap seen_item e ∙ sym (get_or-map seen_item xs k x (seen_item x) h) in
    record {
      more = ap (map seen_item) (take_more xs k x h ∙ ap (λ y. take k xs ++ y ∷ []) (sym e)) ∙ map-append seen_item (take k xs) (x ∷ []);
      spots_more = subst (λ front. take (k + 1) (spots items) ≡ take k (spots items) ++ spot_of front (seen_item x) (map seen_item (drop (k + 1) xs)) ∷ []) (take-map seen_item k xs)
          (subst (λ rest. take (k + 1) (spots items) ≡ take k (spots items) ++ spot_of (take k items) (seen_item x) rest ∷ []) (drop-map seen_item (k + 1) xs) (spots-more items k (seen_item x) within at));
    }

-- the rows behind an item
pub rows_behind : (xs : List KnownItem) (rows : List Row) (k : ℕ) → map (λ (x : KnownItem). x.row) xs ≡ rows → map (λ (item : DataItem). item.row) (map seen_item (drop k xs)) ≡ drop k rows
rows_behind xs rows k e = map-map (λ (item : DataItem). item.row) seen_item (drop k xs) ∙ sym (drop-map (λ (x : KnownItem). x.row) k xs) ∙ ap (drop k) e

pub length-spots_after : {A : Type 0} (before items : List A) → length (spots_after before items) ≡ length items
length-spots_after before [] = refl
length-spots_after before (x ∷ items) = ap suc (length-spots_after (before ++ x ∷ []) items)

pub length-spots : {A : Type 0} (items : List A) → length (spots items) ≡ length items
length-spots items = length-spots_after [] items

pub same_names : (left : List OpenGroup) (items : List DataItem) → map seen_group left ≡ map group_of items
    → map seen_name (reverse (map (λ (group : OpenGroup). group.name) left)) ≡ reverse (map (λ (item : DataItem). item.text.name) items)
same_names left items h =
    map-reverse seen_name (map (λ (group : OpenGroup). group.name) left)
    ∙ ap reverse (map-map seen_name (λ (group : OpenGroup). group.name) left ∙ same_map (λ (group : Group). group.name) left items h)

-- the facts at a place
pub facts_at : (spots : List (Spot DataItem)) (facts : List Facts) (k : ℕ) (spot : Spot DataItem) (one : Facts) → AreFactsOf spots facts → slice_get spots k ≡ Some spot → k < length facts → one ≡ get_or facts k one → IsFacts spot one
facts_at [] facts k spot one h e l g = cc
facts_at (first ∷ spots) [] k spot one h e l g = absurd h
facts_at (first ∷ spots) (fact ∷ facts) zero spot one h e l g = let same : first ≡ spot = cc in subst (λ s. IsFacts s one) same (subst (λ f. IsFacts first f) (sym g) h.0)
facts_at (first ∷ spots) (fact ∷ facts) (suc k) spot one h e l g = facts_at spots facts k spot one h.1 e (omega arith) g

pub length-AreFactsOf : (spots : List (Spot DataItem)) (facts : List Facts) → AreFactsOf spots facts → length facts ≡ length spots
length-AreFactsOf [] facts h = ap length h
length-AreFactsOf (first ∷ spots) [] h = absurd h
length-AreFactsOf (first ∷ spots) (fact ∷ facts) h = ap suc (length-AreFactsOf spots facts h.1)

-- the item of a spot is that at its place
pub item_of_spot : {A : Type 0} (before items : List A) (k : ℕ) (spot : Spot A) (d : A) → slice_get (spots_after before items) k ≡ Some spot → spot.item ≡ get_or items k d
item_of_spot before [] k spot d e = cc
item_of_spot before (x ∷ items) zero spot d e = let same : spot_of before x items ≡ spot = cc in ap (λ (one : Spot _). one.item) (sym same)
item_of_spot before (x ∷ items) (suc k) spot d e = item_of_spot (before ++ x ∷ []) items k spot d e

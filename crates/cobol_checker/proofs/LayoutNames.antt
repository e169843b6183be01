-- A reference names the same item of a program's items and of their layout.
use Rattle.std.proofs.Common.{◌≡◌, ◌∙◌, inl, inr, refl, sym, ap, subst, arith, ℕ, zero, suc, ◌+◌, ◌<◌, ◌≤◌, ◌==◌, Bool, ◌&&◌, List, [], ◌∷◌, ◌++◌, append_assoc, append-nil, length, map, reverse, take, get_or, Option, Some, None}
use Rattle.std.specs.Prelude.{if◌then◌else◌, filter, slice_get}
use Rattle.std.specs.List.{last_or}
use Rattle.std.proofs.lemmas.Simd.{map-map}
use Rattle.std.proofs.lemmas.List.{reverse-append, map-append, length-append, length-map, take_all}
use Rattle.std.proofs.lemmas.Option.{slice_get_within}
use Rattle.cob_base.specs.declared.operands.Reference.{Reference}
use Rattle.data_layout.specs.declared.row.Row.{Row}
use Rattle.data_layout.specs.declared.row.Described.{Described}
use Rattle.data_layout.specs.declared.layout.Item.{Item}
use Rattle.data_layout.specs.Storage.{goes_on, groups, last_of}
use Rattle.data_layout.specs.Layout.{IsItem, AreItems, parent_of, number_of, occurs_or_zero}
use Rattle.data_names.specs.Items.{DataItem}
use Rattle.data_names.specs.Spots.{Spot, spots, spots_after, spot_of, open_after, around, groups_of, rows_before, rows_after}
use Rattle.data_names.specs.References.{is_called, is_qualified, names_around, is_match, found, only_one, matching}
use Rattle.data_names.specs.Names.{numbers_from}
use Rattle.data_names.proofs.Opened.{map-filter, map-reverse}
use Rattle.data_names.proofs.NumbersOf.{numbers-more, added_or_not}
use Rattle.data_names.proofs.Choices.{pairs_from, ArePlaced, are_placed, numbers_of_pairs, values_of_pairs}
use Rattle.data_names.proofs.Surveys.{length-spots}
use Rattle.data_layout.specs.Occurrences.{around_item}
use Rattle.screen_names.specs.Names.{is_named, are_qualifiers, matches, numbers_where, matched_by, is_only, only_item}
use Rattle.data_layout.specs.Occurrences as s
use Rattle.data_names.proofs.Cuts.{opened-map}
use Rattle.cobol_checker.proofs.Innermost.{Inner, innermost}

-- ---- an item of the layout at its place

pub record Laid (layout : List Item) (k : ℕ) (spot : Spot DataItem) : Type 0 where
  pub item : Item
  pub at : slice_get layout k ≡ Some item
  pub is : IsItem (rows_before spot) spot.item.row (rows_after spot) spot.item.text item

pub laid_at : (before items : List DataItem) (layout : List Item) (k : ℕ) (spot : Spot DataItem)
    → AreItems (map (λ (item : DataItem). item.row) before) (map (λ (item : DataItem). item.row) items) (map (λ (item : DataItem). item.text) items) layout
    → slice_get (spots_after before items) k ≡ Some spot → Laid layout k spot
laid_at before [] layout k spot h e = cc e
laid_at before (x ∷ items) [] k spot h e = absurd h
laid_at before (x ∷ items) (item ∷ layout) zero spot h e =
    let same : spot_of before x items ≡ spot = cc e in record { item = item; at = refl; is = subst (λ (one : Spot DataItem). IsItem (rows_before one) one.item.row (rows_after one) one.item.text item) same h.0 }
laid_at before (x ∷ items) (item ∷ layout) (suc k) spot h e =
    let front : map (λ (item : DataItem). item.row) before ++ x.row ∷ [] ≡ map (λ (item : DataItem). item.row) (before ++ x ∷ []) = sym (map-append (λ (item : DataItem). item.row) before (x ∷ [])) in
    let later = laid_at (before ++ x ∷ []) items layout k spot
    (subst (λ (rows : List Row). AreItems rows (map (λ (item : DataItem). item.row) items) (map (λ (item : DataItem). item.text) items) layout) front h.1) e in
    record { item = later.item; at = later.at; is = later.is }

-- each item has its number
abbrev pub Numbered : ℕ → List DataItem → Type 0
Numbered n [] = Unit {0}
Numbered n (x ∷ rest) = (x.row.number ≡ n) × Numbered (n + 1) rest

number_at : (n : ℕ) (ahead : List DataItem) (g : DataItem) (rest : List DataItem) → Numbered n (ahead ++ g ∷ rest) → g.row.number ≡ n + length ahead
number_at n [] g rest h = h.0 ∙ omega arith
number_at n (x ∷ ahead) g rest h = number_at (n + 1) ahead g rest h.1 ∙ omega arith

spot_at : (before ahead : List DataItem) (g : DataItem) (rest : List DataItem) → slice_get (spots_after before (ahead ++ g ∷ rest)) (length ahead) ≡ Some (spot_of (before ++ ahead) g rest)
spot_at before [] g rest = rw append-nil refl
spot_at before (x ∷ ahead) g rest = spot_at (before ++ x ∷ []) ahead g rest ∙ ap (λ front. Some (spot_of front g rest)) (append_assoc before (x ∷ []) ahead)

-- what stands before and behind the spot of a number
record Cut (before items : List DataItem) (k : ℕ) (spot : Spot DataItem) : Type 0 where
  cut : before ++ items ≡ spot.before ++ spot.item ∷ spot.rest
  many : length spot.before ≡ length before + k

cut_at : (before items : List DataItem) (k : ℕ) (spot : Spot DataItem) → slice_get (spots_after before items) k ≡ Some spot → Cut before items k spot
cut_at before [] k spot e = cc e
cut_at before (x ∷ items) zero spot e =
    let same : spot_of before x items ≡ spot = cc e in
    record { cut = ap (λ (one : Spot DataItem). one.before ++ one.item ∷ one.rest) same; many = ap (λ (one : Spot DataItem). length one.before) (sym same) ∙ omega arith }
cut_at before (x ∷ items) (suc k) spot e =
    let later = cut_at (before ++ x ∷ []) items k spot e in
    record { cut = sym (append_assoc before (x ∷ []) items) ∙ later.cut; many = later.many ∙ omega (arith, length-append before (x ∷ [])) }

-- ---- the groups around an item

groups-map : (before : List DataItem) (item : DataItem) → groups (map (λ (other : DataItem). other.row) before) item.row ≡ map (λ (other : DataItem). other.row) (around (λ (other : DataItem). other.row) before item)
groups-map before item =
    ap (filter (λ (group : Row). goes_on group item.row)) (opened-map (λ (other : DataItem). other.row) before)
    ∙ sym (map-filter (λ (other : DataItem). other.row) (λ (group : Row). goes_on group item.row) (open_after (λ (other : DataItem). other.row) before))

last-push : (o : Option Row) (rows : List Row) (row : Row) → last_or o (rows ++ row ∷ []) ≡ Some row
last-push o [] row = refl
last-push o (x ∷ rows) row = last-push (Some x) rows row

-- the parent is the innermost group
parent_none : (before : List DataItem) (item : DataItem) → around (λ (other : DataItem). other.row) before item ≡ [] → parent_of (map (λ (other : DataItem). other.row) before) item.row ≡ None
parent_none before item e = ap (λ rows. number_of (last_of rows)) (groups-map before item ∙ ap (map (λ (other : DataItem). other.row)) e)

parent_inner : (before : List DataItem) (item : DataItem) (i : Inner before item) → parent_of (map (λ (other : DataItem). other.row) before) item.row ≡ Some i.group.row.number
parent_inner before item i =
    ap (λ rows. number_of (last_of rows)) (groups-map before item ∙ ap (map (λ (other : DataItem). other.row)) i.groups
    ∙ map-append (λ (other : DataItem). other.row) (around (λ (other : DataItem). other.row) i.ahead i.group) (i.group ∷ []))
    ∙ ap number_of (last-push None (map (λ (other : DataItem). other.row) (around (λ (other : DataItem). other.row) i.ahead i.group)) i.group.row)

-- what counts of an item: its name, and whether it has OCCURS
pub record Seen : Type 0 where
  pub name : Option (List ℕ)
  pub single : Bool

unfoldable pub seen : Item → Seen
seen item = record { name = item.name; single = item.occurs == 0 }

unfoldable pub known : DataItem → Seen
known item = record { name = item.text.name; single = occurs_or_zero item.row.occurs == 0 }

seen_is : (before : List Row) (item : DataItem) (rest : List Row) (laid : Item) → IsItem before item.row rest item.text laid → seen laid ≡ known item
unfolding seen known
seen_is before item rest laid h = rw (h.name, h.occurs) refl

none_around : (most : ℕ) (layout : List Item) → s.around most layout None ≡ []
none_around zero layout = refl
none_around (suc most) layout = refl

-- an item and its groups, from the inside out
around_is : (items : List DataItem) (layout : List Item) → Numbered 0 items → AreItems [] (map (λ (item : DataItem). item.row) items) (map (λ (item : DataItem). item.text) items) layout
    → (most k : ℕ) (spot : Spot DataItem) → slice_get (spots items) k ≡ Some spot → k < most
    → map seen (s.around most layout (Some k)) ≡ known spot.item ∷ reverse (map known (groups_of spot))
around_is items layout n h zero k spot e l = absurd (omega arith)
around_is items layout n h (suc most) k spot e l =
    let laid = laid_at [] items layout k spot h e in
    let cut = cut_at [] items k spot e in
    let first : seen laid.item ≡ known spot.item = seen_is (rows_before spot) spot.item (rows_after spot) laid.item laid.is in
    rw laid.at (elim (innermost spot.before spot.item) as (λ _. seen laid.item ∷ map seen (s.around most layout laid.item.parent) ≡ known spot.item ∷ reverse (map known (groups_of spot))) [
      | inl none ↦ rw (laid.is.parent ∙ parent_none spot.before spot.item none, none_around most layout, none, first) refl
      | inr i ↦
          let whole : items ≡ i.ahead ++ i.group ∷ (i.middle ++ spot.item ∷ spot.rest) = cut.cut ∙ ap (λ front. front ++ spot.item ∷ spot.rest) i.cut ∙ append_assoc i.ahead (i.group ∷ i.middle) (spot.item ∷ spot.rest) in
          let none_more : 0 + length i.ahead ≡ length i.ahead = omega arith in
          let number : i.group.row.number ≡ length i.ahead = number_at 0 i.ahead i.group (i.middle ++ spot.item ∷ spot.rest) (subst (Numbered 0) whole n) ∙ none_more in
          let inner = spot_of i.ahead i.group (i.middle ++ spot.item ∷ spot.rest) in
          let there : slice_get (spots items) (length i.ahead) ≡ Some inner = ap (λ all. slice_get (spots all) (length i.ahead)) whole ∙ spot_at [] i.ahead i.group (i.middle ++ spot.item ∷ spot.rest) in
          let fewer : length i.ahead < most = omega (arith, l, cut.many, ap length i.cut, length-append i.ahead (i.group ∷ i.middle)) in
          let later = around_is items layout n h most (length i.ahead) inner there fewer in
          let parent : laid.item.parent ≡ Some (length i.ahead) = laid.is.parent ∙ parent_inner spot.before spot.item i ∙ ap Some number in
          let outer : reverse (map known (groups_of spot)) ≡ known i.group ∷ reverse (map known (groups_of inner)) =
          ap (λ all. reverse (map known all)) i.groups ∙ ap reverse (map-append known (groups_of inner) (i.group ∷ [])) ∙ reverse-append (map known (groups_of inner)) (known i.group ∷ []) in
          rw (parent, first, outer) (ap (λ rest. known spot.item ∷ rest) later)
    ])

-- ---- which items match

named_is : (given : Option (List ℕ)) (wanted : List ℕ) → is_named given wanted ≡ is_called wanted given
named_is None wanted = refl
named_is (Some given) wanted = refl

either_same : (a b x y u v : Bool) → a ≡ b → x ≡ u → y ≡ v → (if a then x else y) ≡ (if b then u else v)
either_same a b x y u v e f g = rw (e, f, g) refl

qualifiers_are : (names : List (List ℕ)) (groups : List Item) → are_qualifiers names groups ≡ is_qualified names (map (λ (group : Item). group.name) groups)
qualifiers_are [] groups = refl
qualifiers_are (name ∷ names) [] = refl
qualifiers_are (name ∷ names) (group ∷ groups) =
    either_same (is_named group.name name) (is_called name group.name) (are_qualifiers names groups) (are_qualifiers (name ∷ names) groups)
    (is_qualified names (map (λ (one : Item). one.name) groups)) (is_qualified (name ∷ names) (map (λ (one : Item). one.name) groups))
    (named_is group.name name) (qualifiers_are names groups) (qualifiers_are (name ∷ names) groups)

names_are : (groups : List Item) (spot : Spot DataItem) → map seen groups ≡ reverse (map known (groups_of spot)) → map (λ (group : Item). group.name) groups ≡ reverse (names_around spot)
unfolding seen known
names_are groups spot e =
    sym (map-map (λ (one : Seen). one.name) seen groups) ∙ ap (map (λ (one : Seen). one.name)) e ∙ map-reverse (λ (one : Seen). one.name) (map known (groups_of spot))
    ∙ ap reverse (map-map (λ (one : Seen). one.name) known (groups_of spot))

match_is : (reference : Reference) (spot : Spot DataItem) (laid : List Item) → map seen laid ≡ known spot.item ∷ reverse (map known (groups_of spot)) → matches reference laid ≡ is_match reference.name reference.qualifiers spot
unfolding seen known
match_is reference spot [] e = cc e
match_is reference spot (item ∷ groups) e =
    let first : seen item ≡ known spot.item = cc e in
    let rest : map seen groups ≡ reverse (map known (groups_of spot)) = cc e in
    let name : item.name ≡ spot.item.text.name = ap (λ (one : Seen). one.name) first in
    ap (λ given. is_named given reference.name && are_qualifiers reference.qualifiers groups) name
    ∙ ap (λ b. b && are_qualifiers reference.qualifiers groups) (named_is spot.item.text.name reference.name)
    ∙ ap (λ b. is_called reference.name spot.item.text.name && b) (qualifiers_are reference.qualifiers groups ∙ ap (is_qualified reference.qualifiers) (names_are groups spot rest))

-- ---- the one that matches

record There (xs : List (Spot DataItem)) (k : ℕ) : Type 0 where
  spot : Spot DataItem
  at : slice_get xs k ≡ Some spot
  read : spot ≡ get_or xs k spot

there : (xs : List (Spot DataItem)) (k : ℕ) → k < length xs → There xs k
there [] k h = absurd (omega arith)
there (x ∷ xs) zero h = record { spot = x; at = refl; read = refl }
there (x ∷ xs) (suc k) h = let later = there xs k (omega arith) in record { spot = later.spot; at = later.at; read = later.read }

where_from : (test : ℕ → Bool) (passes : Spot DataItem → Bool) (xs : List (Spot DataItem)) → ((k : ℕ) (x : Spot DataItem) → slice_get xs k ≡ Some x → test k ≡ passes x) → (n : ℕ) → n ≤ length xs
    → numbers_where test n ≡ numbers_from 0 passes (take n xs)
where_from test passes xs same zero h = refl
where_from test passes xs same (suc n) h =
    let within : n < length xs = omega arith in
    let one = there xs n within in
    let next : suc n ≡ n + 1 = omega arith in
    let more = numbers-more passes xs n one.spot (numbers_from 0 passes (take n xs)) (if passes one.spot then numbers_from 0 passes (take n xs) ++ n ∷ [] else numbers_from 0 passes (take n xs)) within one.read refl refl in
    ap (λ front. front ++ (if test n then n ∷ [] else [])) (where_from test passes xs same n (omega arith))
    ∙ ap (λ b. numbers_from 0 passes (take n xs) ++ (if b then n ∷ [] else [])) (same n one.spot one.at)
    ∙ sym (added_or_not (passes one.spot) (numbers_from 0 passes (take n xs)) n) ∙ more ∙ ap (λ m. numbers_from 0 passes (take m xs)) (sym next)

length-laid : (before : List Row) (rows : List Row) (texts : List Described) (layout : List Item) → AreItems before rows texts layout → length layout ≡ length rows
length-laid before [] texts layout h = ap length h.1
length-laid before (row ∷ rows) [] layout h = absurd h
length-laid before (row ∷ rows) (text ∷ texts) [] h = absurd h
length-laid before (row ∷ rows) (text ∷ texts) (item ∷ layout) h = ap suc (length-laid (before ++ row ∷ []) rows texts layout h.1)

-- the item that was found, by its number
pub record Named (items : List DataItem) (layout : List Item) (reference : Reference) (spot : Spot DataItem) : Type 0 where
  pub number : ℕ
  pub only : only_item layout reference ≡ Some number
  pub laid : Laid layout number spot
  pub groups : map seen (around_item layout number) ≡ known spot.item ∷ reverse (map known (groups_of spot))

one_pair : (items : List DataItem) (pairs : List (ℕ × Spot DataItem)) (spot : Spot DataItem) → only_one (map (λ (p : ℕ × Spot DataItem). p.1) pairs) ≡ Some spot → (k : ℕ) × (pairs ≡ (k, spot) ∷ [])
one_pair items [] spot e = cc e
one_pair items (p ∷ []) spot e = let same : p.1 ≡ spot = cc e in (p.0, ap (λ one. (p.0, one) ∷ []) same)
one_pair items (p ∷ (q ∷ pairs)) spot e = cc e

pub named_once : (items : List DataItem) (layout : List Item) (reference : Reference) (spot : Spot DataItem) → Numbered 0 items
    → AreItems [] (map (λ (item : DataItem). item.row) items) (map (λ (item : DataItem). item.text) items) layout → found items reference ≡ Some spot → Named items layout reference spot
named_once items layout reference spot n h e =
    let passes = is_match reference.name reference.qualifiers in
    let all = spots items in
    let many : length all ≡ length layout = length-spots items ∙ sym (length-map items (λ (item : DataItem). item.row)) ∙ sym (length-laid [] (map (λ (item : DataItem). item.row) items) (map (λ (item : DataItem). item.text) items) layout h) in
    let same : (k : ℕ) (x : Spot DataItem) → slice_get all k ≡ Some x → matches reference (around_item layout k) ≡ passes x =
    λ k x at. match_is reference x (around_item layout k) (around_is items layout n h (length layout) k x at (omega (arith, slice_get_within all k x at, many))) in
    let whole : length layout ≤ length all = omega (arith, many) in
    let all_of : length all ≤ length layout = omega (arith, many) in
    let numbers : matched_by layout reference ≡ map (λ (p : ℕ × Spot DataItem). p.0) (pairs_from 0 passes all) =
    where_from (λ k. matches reference (around_item layout k)) passes all same (length layout) whole
    ∙ ap (numbers_from 0 passes) (take_all (length layout) all all_of) ∙ sym (numbers_of_pairs 0 passes all) in
    let values : matching items reference.name reference.qualifiers ≡ map (λ (p : ℕ × Spot DataItem). p.1) (pairs_from 0 passes all) = sym (values_of_pairs 0 passes all) in
    let one = one_pair items (pairs_from 0 passes all) spot (sym (ap only_one values) ∙ e) in
    let placed = subst (λ (pairs : List (ℕ × Spot DataItem)). ArePlaced all pairs) one.1 (are_placed passes all) in
    record {
      number = one.0;
      only = ap is_only numbers ∙ ap (λ (pairs : List (ℕ × Spot DataItem)). is_only (map (λ (p : ℕ × Spot DataItem). p.0) pairs)) one.1;
      laid = laid_at [] items layout one.0 spot h placed.0;
      groups = around_is items layout n h (length layout) one.0 spot placed.0 (omega (arith, slice_get_within all one.0 spot placed.0, many));
    }

-- The bytes of an item, by whether it stands in a table.
use Rattle.std.proofs.Common.{◌≡◌, ℕ, ◌+◌, ◌*◌, ◌<◌, ◌||◌, ◌&&◌, refl, sym, ◌∙◌, ap, subst, arith, inl, inr, Bool, true, false, cond, List, [], ◌∷◌, ◌++◌, take, drop, append_assoc, Option, Some, None}
use Rattle.std.specs.Prelude.{filter, find, if◌then◌else◌, is_some, slice_get, not}
use Rattle.std.specs.List.{list_any, list_all}
use Rattle.std.proofs.lemmas.List.Folds.{list_all-append}
use Rattle.std.proofs.lemmas.List.Elements.{filter-append}
use Rattle.data_layout.specs.declared.row.Row.{Row}
use Rattle.data_layout.specs.declared.layout.Item.{Item}
use Rattle.data_layout.specs.declared.layout.Layout.{Layout}
use Rattle.data_layout.specs.Storage.{goes_on, number_of_times, storage, is_repeated}
use Rattle.data_layout.specs.Faults.{is_bad_level, level_fits, has_bad_clauses}
use Rattle.data_layout.specs.Layout.{IsOffset}
use Rattle.data_layout.specs.Occurrences as laid
use Rattle.data_layout.proofs.Places.{NextIs, repeated_of}
use Rattle.data_names.specs.Items.{DataItem}
use Rattle.data_names.specs.Spots.{Spot, spot_of, open_after}
use Rattle.opening_storage.specs.Opening.{Opens, gives_bytes, table_of, times_of, stride_of}
use Rattle.opening_storage.specs.Filling.{own_bytes}
use Rattle.opening_storage.proofs.Groups.{both, neither, neither_is, none_chosen, none_open, open_inside}
use Rattle.opening_storage.proofs.Sums.{has_occurs}
use Rattle.opening_storage.proofs.Members.{rows_of, groups_at, repeated_at}
use Rattle.opening_storage.proofs.Tables.{stride_at}

abbrev pub occurs_in : DataItem → Bool
occurs_in item = is_some item.row.occurs

-- ---- which item has the OCCURS

pub find_behind : (p : DataItem → Bool) (xs ys : List DataItem) → list_any p xs ≡ false → find p (xs ++ ys) ≡ find p ys
find_behind p [] ys h = refl
find_behind p (x ∷ xs) ys h =
    let parts = neither (p x) (list_any p xs) h in ap (λ b. cond b (Some x) (find p (xs ++ ys))) parts.0 ∙ find_behind p xs ys parts.1

-- outside tables it is the item itself, or none
pub own_table : (before : List DataItem) (x : DataItem) (rest : List DataItem) (b : Bool) → repeated_at before x ≡ false → occurs_in x ≡ b → table_of (spot_of before x rest) ≡ cond b (Some x) None
own_table before x rest b h e = find_behind occurs_in (groups_at before x) (x ∷ []) h ∙ ap (λ b. cond b (Some x) None) e

none_rows : (xs : List DataItem) → list_any has_occurs (rows_of xs) ≡ false → list_any occurs_in xs ≡ false
none_rows [] h = refl
none_rows (x ∷ xs) h = let parts = neither (occurs_in x) (list_any has_occurs (rows_of xs)) h in neither_is (occurs_in x) (list_any occurs_in xs) parts.0 (none_rows xs parts.1)

chosen_by : (q p : DataItem → Bool) (t : DataItem) (ys : List DataItem) (b : Bool) → q t ≡ b → list_any p (filter q ys) ≡ false → list_any p (filter q (t ∷ ys)) ≡ true → b ≡ true
chosen_by q p t ys true e h k = refl
chosen_by q p t ys false e h k =
    let same : filter q (t ∷ ys) ≡ filter q ys = ap (λ b. if b then t ∷ filter q ys else filter q ys) e in
    let never : true ≡ false = sym k ∙ ap (list_any p) same ∙ h in absurd (cc never)

-- in a table it is the table
pub outer_table : (before : List DataItem) (table : DataItem) (later : List DataItem) (x : DataItem) (rest : List DataItem) → repeated_at before table ≡ false
    → list_all (λ (y : DataItem). goes_on table.row y.row) later ≡ true → list_any has_occurs (rows_of later) ≡ false → occurs_in table ≡ true
    → goes_on table.row x.row ≡ true → table_of (spot_of (before ++ table ∷ later) x rest) ≡ Some table
outer_table before table later x rest out all plain o h =
    let q : DataItem → Bool = λ (g : DataItem). goes_on g.row x.row in
    let rows : DataItem → Row = λ (item : DataItem). item.row in
    let first : filter q (table ∷ open_after rows later) ≡ table ∷ filter q (open_after rows later) = ap (λ b. if b then table ∷ filter q (open_after rows later) else filter q (open_after rows later)) h in
    let groups_are : groups_at (before ++ table ∷ later) x ≡ filter q (groups_at before table) ++ (table ∷ filter q (open_after rows later)) =
    ap (filter q) (open_inside rows before table later all) ∙ filter-append q (groups_at before table) (table ∷ open_after rows later) ∙ ap (λ ys. filter q (groups_at before table) ++ ys) first in
    let whole : table_of (spot_of (before ++ table ∷ later) x rest) ≡ find occurs_in (filter q (groups_at before table) ++ (table ∷ (filter q (open_after rows later) ++ x ∷ []))) =
    ap (λ gs. find occurs_in (gs ++ x ∷ [])) groups_are ∙ ap (find occurs_in) (append_assoc (filter q (groups_at before table)) (table ∷ filter q (open_after rows later)) (x ∷ [])) in
    whole ∙ find_behind occurs_in (filter q (groups_at before table)) (table ∷ (filter q (open_after rows later) ++ x ∷ [])) (none_chosen occurs_in q (groups_at before table) out)
    ∙ ap (λ b. cond b (Some table) (find occurs_in (filter q (open_after rows later) ++ x ∷ []))) o

-- the table that is open is the one in which a repeated item stands
pub in_the_table : (before : List DataItem) (table : DataItem) (later : List DataItem) (x : DataItem) → repeated_at before table ≡ false → list_all (λ (y : DataItem). goes_on table.row y.row) later ≡ true
    → list_any has_occurs (rows_of later) ≡ false → repeated_at (before ++ table ∷ later) x ≡ true → goes_on table.row x.row ≡ true
in_the_table before table later x out all plain h =
    let q : DataItem → Bool = λ (g : DataItem). goes_on g.row x.row in
    let rows : DataItem → Row = λ (item : DataItem). item.row in
    let groups_are : groups_at (before ++ table ∷ later) x ≡ filter q (groups_at before table) ++ filter q (table ∷ open_after rows later) =
    ap (filter q) (open_inside rows before table later all) ∙ filter-append q (groups_at before table) (table ∷ open_after rows later) in
    let ahead : list_any occurs_in (filter q (groups_at before table)) ≡ false = none_chosen occurs_in q (groups_at before table) out in
    let behind : list_any occurs_in (filter q (open_after rows later)) ≡ false = none_chosen occurs_in q (open_after rows later) (none_open rows occurs_in later (none_rows later plain)) in
    let here : list_any occurs_in (filter q (table ∷ open_after rows later)) ≡ true =
    any_behind occurs_in (filter q (groups_at before table)) (filter q (table ∷ open_after rows later)) ahead (sym (ap (list_any occurs_in) groups_are) ∙ h) in
    chosen_by q occurs_in table (open_after rows later) (goes_on table.row x.row) refl behind here
  where
    any_behind : (p : DataItem → Bool) (xs ys : List DataItem) → list_any p xs ≡ false → list_any p (xs ++ ys) ≡ true → list_any p ys ≡ true
    any_behind p [] ys h k = k
    any_behind p (x ∷ xs) ys h k = let parts = neither (p x) (list_any p xs) h in any_behind p xs ys parts.1 (sym (ap (λ b. b || list_any p (xs ++ ys)) parts.0) ∙ k)

-- ---- no OCCURS inside OCCURS

nested_not : (fits occurs repeated clauses : Bool) → (not fits || (occurs && repeated) || clauses) ≡ false → repeated ≡ true → occurs ≡ false
nested_not true true repeated true h r = cc
nested_not true true repeated false h r = cc
nested_not true false repeated clauses h r = refl
nested_not false occurs repeated clauses h r = cc

pub not_nested : (before : List Row) (row : Row) → is_bad_level before row ≡ false → is_repeated before row ≡ true → is_some row.occurs ≡ false
not_nested before row h r = nested_not (level_fits before row) (is_some row.occurs) (is_repeated before row) (has_bad_clauses row) h r

-- ---- offsets

pub offset_outside : (before : List Row) (row : Row) (offset : ℕ) → IsOffset before row offset → is_repeated before row ≡ false → offset ≡ storage before
offset_outside before row offset (inl h) out = h.1
offset_outside before row offset (inr (ahead, group, later, parts, all, occurs, e)) out =
    let two = both (list_all (goes_on group) later) (goes_on group row && true) (sym (list_all-append (goes_on group) later (row ∷ [])) ∙ all) in
    let one = both (goes_on group row) true two.1 in
    let rep : is_repeated before row ≡ true = ap (λ xs. is_repeated xs row) parts ∙ repeated_of ahead group later row two.0 one.0 occurs in
    let never : true ≡ false = sym rep ∙ out in absurd (cc never)

pub offset_inside : (before : List Row) (row : Row) (offset place : ℕ) → IsOffset before row offset → is_repeated before row ≡ true → NextIs before place → offset ≡ place
offset_inside before row offset place (inl h) rep n = let never : true ≡ false = sym rep ∙ h.0 in absurd (cc never)
offset_inside before row offset place (inr (ahead, group, later, parts, all, occurs, e)) rep n =
    let two = both (list_all (goes_on group) later) (goes_on group row && true) (sym (list_all-append (goes_on group) later (row ∷ [])) ∙ all) in
    e ∙ sym (n ahead group later parts two.0 occurs)

-- ---- the law of an item that stands in no table

pub size_at : (places : List Item) (n : ℕ) (place : Item) → slice_get places n ≡ Some place → laid.stride_of (slice_get places n) ≡ place.size
size_at places n place h = ap laid.stride_of h

abbrev pub LawAt : Layout → List ℕ → Item → List ℕ → Option DataItem → Type 0
LawAt layout b place c table = (k : ℕ) → k < times_of table → take place.size (drop (place.offset + k * stride_of layout table) b) ≡ c

abbrev pub Each : List ℕ → ℕ → ℕ → ℕ → ℕ → List ℕ → Type 0
Each b times start far size c = (k : ℕ) → k < times → take size (drop (start + k * far) b) ≡ c

once_of : (o : Option ℕ) → is_some o ≡ false → number_of_times o ≡ 1
once_of None h = refl
once_of (Some n) h = cc

first_of_one : (k : ℕ) → k < 1 → k ≡ 0
first_of_one k h = omega arith

none_far : (k m n : ℕ) → k ≡ 0 → k * m ≡ k * n
none_far k m n h = rw h (omega arith)

-- by cases on whether it has OCCURS
law_forth : (layout : Layout) (b : List ℕ) (x : DataItem) (place : Item) (c : List ℕ) (o : Bool) → occurs_in x ≡ o → slice_get layout.items x.row.number ≡ Some place
    → LawAt layout b place c (cond o (Some x) None) → Each b (number_of_times x.row.occurs) place.offset place.size place.size c
law_forth layout b x place c true e n h k l = subst (λ m. take place.size (drop (place.offset + k * m) b) ≡ c) (size_at layout.items x.row.number place n) (h k l)
law_forth layout b x place c false e n h k l =
    let few : k < 1 = subst (λ m. k < m) (once_of x.row.occurs e) l in
    subst (λ m. take place.size (drop (place.offset + m) b) ≡ c) (none_far k 0 place.size (first_of_one k few)) (h k few)

law_back : (layout : Layout) (b : List ℕ) (x : DataItem) (place : Item) (c : List ℕ) (o : Bool) → occurs_in x ≡ o → slice_get layout.items x.row.number ≡ Some place
    → Each b (number_of_times x.row.occurs) place.offset place.size place.size c → LawAt layout b place c (cond o (Some x) None)
law_back layout b x place c true e n h k l = subst (λ m. take place.size (drop (place.offset + k * m) b) ≡ c) (sym (size_at layout.items x.row.number place n)) (h k l)
law_back layout b x place c false e n h k l =
    let more : k < number_of_times x.row.occurs = subst (λ m. k < m) (sym (once_of x.row.occurs e)) l in
    subst (λ m. take place.size (drop (place.offset + m) b) ≡ c) (sym (none_far k 0 place.size (first_of_one k l))) (h k more)

pub opens_forth : (layout : Layout) (b : List ℕ) (before : List DataItem) (x : DataItem) (rest : List DataItem) (place : Item) → repeated_at before x ≡ false → gives_bytes (spot_of before x rest) ≡ true
    → slice_get layout.items x.row.number ≡ Some place → Opens layout b (spot_of before x rest) place → Each b (number_of_times x.row.occurs) place.offset place.size place.size (own_bytes x place.picture)
opens_forth layout b before x rest place out g n h =
    law_forth layout b x place (own_bytes x place.picture) (occurs_in x) refl n (subst (λ t. LawAt layout b place (own_bytes x place.picture) t) (own_table before x rest (occurs_in x) out refl) (h g))

pub opens_back : (layout : Layout) (b : List ℕ) (before : List DataItem) (x : DataItem) (rest : List DataItem) (place : Item) → repeated_at before x ≡ false
    → slice_get layout.items x.row.number ≡ Some place → Each b (number_of_times x.row.occurs) place.offset place.size place.size (own_bytes x place.picture) → Opens layout b (spot_of before x rest) place
opens_back layout b before x rest place out n h g =
    subst (λ t. LawAt layout b place (own_bytes x place.picture) t) (sym (own_table before x rest (occurs_in x) out refl)) (law_back layout b x place (own_bytes x place.picture) (occurs_in x) refl n h)

-- ---- the law of an item in a table

pub inside_forth : (layout : Layout) (b : List ℕ) (spot : Spot DataItem) (table : DataItem) (place : Item) (times stride : ℕ) → table_of spot ≡ Some table → gives_bytes spot ≡ true
    → times ≡ number_of_times table.row.occurs → stride_at layout.items table ≡ stride → Opens layout b spot place → Each b times place.offset stride place.size (own_bytes spot.item place.picture)
inside_forth layout b spot table place times stride t g n s h k l =
    let law : LawAt layout b place (own_bytes spot.item place.picture) (Some table) = subst (λ t. LawAt layout b place (own_bytes spot.item place.picture) t) t (h g) in
    subst (λ m. take place.size (drop (place.offset + k * m) b) ≡ own_bytes spot.item place.picture) s (law k (subst (λ m. k < m) n l))

pub inside_back : (layout : Layout) (b : List ℕ) (spot : Spot DataItem) (table : DataItem) (place : Item) (times stride : ℕ) → table_of spot ≡ Some table
    → times ≡ number_of_times table.row.occurs → stride_at layout.items table ≡ stride → Each b times place.offset stride place.size (own_bytes spot.item place.picture) → Opens layout b spot place
inside_back layout b spot table place times stride t n s h g =
    let law : LawAt layout b place (own_bytes spot.item place.picture) (Some table) =
    λ k l. subst (λ m. take place.size (drop (place.offset + k * m) b) ≡ own_bytes spot.item place.picture) (sym s) (h k (subst (λ m. k < m) (sym n) l)) in
    subst (λ t. LawAt layout b place (own_bytes spot.item place.picture) t) (sym t) law

-- an item that gives none has no law
pub opens_none : (layout : Layout) (b : List ℕ) (spot : Spot DataItem) (place : Item) → gives_bytes spot ≡ false → Opens layout b spot place
opens_none layout b spot place h g = let never : true ≡ false = sym g ∙ h in absurd (cc never)

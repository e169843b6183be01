-- No OCCURS stands inside another, and each occurrence of an item lies within all bytes.
use Rattle.std.proofs.Common.{◌≡◌, ℕ, zero, suc, ◌+◌, ◌*◌, ◌<◌, ◌≤◌, refl, sym, ◌∙◌, ap, subst, arith, Bool, true, false, not, ◌&&◌, ◌==◌, inl, inr, ◌⊎◌, List, [], ◌∷◌, ◌++◌, length, append_assoc, append-nil, sum_by, Option, Some, None}
use Rattle.std.specs.Prelude.{is_some, slice_get, count_by, find, filter, if◌then◌else◌, cond}
use Rattle.std.specs.List.{list_all, last_or}
use Rattle.std.proofs.lemmas.List.Sums.{sum_by-cons}
use Rattle.std.proofs.lemmas.List.Folds.{list_all-append}
use Rattle.data_layout.specs.declared.row.Row.{Row}
use Rattle.data_layout.specs.declared.row.Described.{Described}
use Rattle.data_layout.specs.declared.layout.Item.{Item}
use Rattle.data_layout.specs.declared.layout.Layout.{Layout}
use Rattle.data_layout.specs.Storage.{goes_on, opened, groups, members, own_size, number_of_times, storage, is_repeated, last_of}
use Rattle.data_layout.specs.Faults.{is_bad_level, row_faults, faults_after}
use Rattle.data_layout.specs.Layout.{number_of, parent_of, IsOffset, size_of, occurs_or_zero, IsItem, AreItems}
use Rattle.data_layout.specs.Occurrences.{group_of, with_item, around, around_item, has_occurs, table_around, times_of, stride_of, AreTablesApart, AreOccurrencesInside}
use Rattle.data_layout.specs.Placed.{NumberedFrom}
use Rattle.data_layout.proofs.Places.{repeated_of, behind, size_le, offset_le}
use Rattle.data_layout.proofs.PlacedRows.{not_nested, empty_parts, faultless_row}
use Rattle.data_layout.proofs.Numbers.{number_at}
use Rattle.data_layout.proofs.TableBytes.{goes_further, all_further, own_within, in_within, part_le, table_le}

both : (a b : Bool) → (a && b) ≡ true → (a ≡ true) × (b ≡ true)
both true b h = (refl, h)
both false b h = cc

-- ---- items of rows

-- the item of a row, which others stand before
record Laid (pre : List Row) (items : List Item) (before : List Row) (row : Row) (rest : List Row) : Type 0 where
  item : Item
  text : Described
  here : slice_get items (length before) ≡ Some item
  is : IsItem (pre ++ before) row rest text item

laid_of : (pre before : List Row) (row : Row) (rest : List Row) (texts : List Described) (items : List Item) → AreItems pre (before ++ row ∷ rest) texts items → Laid pre items before row rest
laid_of pre [] row rest [] items h = absurd h
laid_of pre [] row rest (text ∷ texts) [] h = absurd h
laid_of pre [] row rest (text ∷ texts) (item ∷ items) h =
    record { item = item; text = text; here = refl; is = subst (λ (xs : List Row). IsItem xs row rest text item) (sym (append-nil pre)) h.0 }
laid_of pre (other ∷ before) row rest [] items h = absurd h
laid_of pre (other ∷ before) row rest (text ∷ texts) [] h = absurd h
laid_of pre (other ∷ before) row rest (text ∷ texts) (item ∷ items) h =
    let l = laid_of (pre ++ other ∷ []) before row rest texts items h.1 in
    record { item = l.item; text = l.text; here = l.here; is = subst (λ (xs : List Row). IsItem xs row rest l.text l.item) (append_assoc pre (other ∷ []) before) l.is }

-- the row of an item
record Split (rows : List Row) (number : ℕ) : Type 0 where
  before : List Row
  row : Row
  rest : List Row
  parts : rows ≡ before ++ row ∷ rest
  count : length before ≡ number

split_at : (pre rows : List Row) (texts : List Described) (items : List Item) (number : ℕ) (item : Item) → AreItems pre rows texts items → slice_get items number ≡ Some item → Split rows number
split_at pre [] texts items number item h e = let none : None ≡ Some item = sym (ap (λ xs. slice_get xs number) h.1) ∙ e in absurd (cc none)
split_at pre (row ∷ rows) [] items number item h e = absurd h
split_at pre (row ∷ rows) (text ∷ texts) [] number item h e = absurd h
split_at pre (row ∷ rows) (text ∷ texts) (first ∷ items) zero item h e = record { before = []; row = row; rest = rows; parts = refl; count = refl }
split_at pre (row ∷ rows) (text ∷ texts) (first ∷ items) (suc number) item h e =
    let s = split_at (pre ++ row ∷ []) rows texts items number item h.1 e in
    record { before = row ∷ s.before; row = s.row; rest = s.rest; parts = ap (λ xs. row ∷ xs) s.parts; count = ap suc s.count }

-- ---- the innermost group of a row

record Inner (before : List Row) (row : Row) : Type 0 where
  ahead : List Row
  group : Row
  later : List Row
  parts : before ≡ ahead ++ group ∷ later
  members : list_all (goes_on group) later ≡ true
  here : goes_on group row ≡ true
  last : last_of (groups before row) ≡ Some group

kept : (a b : Bool) (other row : Row) (rows : List Row) → goes_on other row ≡ b
    → filter (λ (group : Row). goes_on group row) (if a then other ∷ rows else rows)
    ≡ (if a && b then other ∷ filter (λ (group : Row). goes_on group row) rows else filter (λ (group : Row). goes_on group row) rows)
kept true true other row rows e = rw e refl
kept true false other row rows e = rw e refl
kept false b other row rows e = refl

groups-cons : (other : Row) (later : List Row) (row : Row)
    → groups (other ∷ later) row ≡ (if list_all (goes_on other) later && goes_on other row then other ∷ groups later row else groups later row)
groups-cons other later row = kept (list_all (goes_on other) later) (goes_on other row) other row (opened later) refl

last_any : (o : Option Row) (rows : List Row) (group : Row) → last_or None rows ≡ Some group → last_or o rows ≡ Some group
last_any o [] group h = absurd (cc h)
last_any o (row ∷ rows) group h = h

inner_step : (b : Bool) (other : Row) (later : List Row) (row : Row) → (list_all (goes_on other) later && goes_on other row) ≡ b → (groups later row ≡ []) ⊎ Inner later row
    → (groups (other ∷ later) row ≡ []) ⊎ Inner (other ∷ later) row
inner_step true other later row e (inl none) =
    let parts = both (list_all (goes_on other) later) (goes_on other row) e in
    let all : groups (other ∷ later) row ≡ other ∷ [] = groups-cons other later row ∙ ap (λ b. if b then other ∷ groups later row else groups later row) e ∙ ap (λ xs. other ∷ xs) none in
    inr (record { ahead = []; group = other; later = later; parts = refl; members = parts.0; here = parts.1; last = ap (last_or None) all })
inner_step true other later row e (inr i) =
    let all : groups (other ∷ later) row ≡ other ∷ groups later row = groups-cons other later row ∙ ap (λ b. if b then other ∷ groups later row else groups later row) e in
    inr (record {
      ahead = other ∷ i.ahead;
      group = i.group;
      later = i.later;
      parts = ap (λ xs. other ∷ xs) i.parts;
      members = i.members;
      here = i.here;
      last = ap (last_or None) all ∙ last_any (Some other) (groups later row) i.group i.last;
    })
inner_step false other later row e (inl none) = inl (groups-cons other later row ∙ ap (λ b. if b then other ∷ groups later row else groups later row) e ∙ none)
inner_step false other later row e (inr i) =
    let all : groups (other ∷ later) row ≡ groups later row = groups-cons other later row ∙ ap (λ b. if b then other ∷ groups later row else groups later row) e in
    inr (record {
      ahead = other ∷ i.ahead;
      group = i.group;
      later = i.later;
      parts = ap (λ xs. other ∷ xs) i.parts;
      members = i.members;
      here = i.here;
      last = ap (last_or None) all ∙ i.last;
    })

inner_of : (before : List Row) (row : Row) → (groups before row ≡ []) ⊎ Inner before row
inner_of [] row = inl refl
inner_of (other ∷ later) row = inner_step (list_all (goes_on other) later && goes_on other row) other later row refl (inner_of later row)

-- ---- what has the OCCURS

-- a row stands in this one
abbrev StandsIn : List Row → Row → List Row → List Row → Row → List Row → Type 0
StandsIn before row rest ahead owner after =
    (later : List Row) × (before ≡ ahead ++ owner ∷ later) × (after ≡ later ++ row ∷ rest) × (list_all (goes_on owner) later ≡ true) × (goes_on owner row ≡ true)

-- a row is this one, or stands in it
abbrev Stands : List Row → Row → List Row → List Row → Row → List Row → Type 0
Stands before row rest ahead owner after = ((before ≡ ahead) × (row ≡ owner) × (rest ≡ after)) ⊎ StandsIn before row rest ahead owner after

stands_further : (before : List Row) (row : Row) (rest mid : List Row) (group : Row) (inner ahead : List Row) (owner : Row) (after : List Row) → before ≡ mid ++ group ∷ inner
    → list_all (goes_on group) inner ≡ true → goes_on group row ≡ true → Stands mid group (inner ++ row ∷ rest) ahead owner after → StandsIn before row rest ahead owner after
stands_further before row rest mid group inner ahead owner after parts all here (inl s) = (
  inner,
  parts ∙ ap (λ xs. xs ++ group ∷ inner) s.0 ∙ ap (λ (x : Row). ahead ++ x ∷ inner) s.1,
  sym s.2,
  subst (λ (x : Row). list_all (goes_on x) inner ≡ true) s.1 all,
  subst (λ (x : Row). goes_on x row ≡ true) s.1 here,
)
stands_further before row rest mid group inner ahead owner after parts all here (inr (later, cut, behind, members, inside)) = (
  later ++ group ∷ inner,
  parts ∙ ap (λ xs. xs ++ group ∷ inner) cut ∙ append_assoc ahead (owner ∷ later) (group ∷ inner),
  behind ∙ sym (append_assoc later (group ∷ inner) (row ∷ rest)),
  list_all-append (goes_on owner) later (group ∷ inner) ∙ rw (members, inside, all_further owner group inner inside all) refl,
  goes_further owner group row inside here,
)

record IsTable (before : List Row) (row : Row) (rest : List Row) (table : Item) : Type 0 where
  ahead : List Row
  owner : Row
  after : List Row
  text : Described
  is : IsItem ahead owner after text table
  has : has_occurs table ≡ true
  stands : Stands before row rest ahead owner after

-- the same of what is around the item
record IsOuter (before : List Row) (row : Row) (rest : List Row) (table : Item) : Type 0 where
  ahead : List Row
  owner : Row
  after : List Row
  text : Described
  is : IsItem ahead owner after text table
  has : has_occurs table ≡ true
  stands : StandsIn before row rest ahead owner after

from_outer : (before : List Row) (row : Row) (rest : List Row) (table : Item) → IsOuter before row rest table → IsTable before row rest table
from_outer before row rest table t = record { ahead = t.ahead; owner = t.owner; after = t.after; text = t.text; is = t.is; has = t.has; stands = inr t.stands }

none_around : (most : ℕ) (items : List Item) → around most items None ≡ []
none_around zero items = refl
none_around (suc most) items = refl

-- the item itself, or what is found around it
one_out : (b : Bool) (before : List Row) (row : Row) (rest : List Row) (text : Described) (item table : Item) (outer : Option Item) → IsItem before row rest text item → has_occurs item ≡ b
    → cond b (Some item) outer ≡ Some table → (outer ≡ Some table → IsTable before row rest table) → IsTable before row rest table
one_out true before row rest text item table outer is has e f =
    let same : item ≡ table = cc e in
    record {
      ahead = before;
      owner = row;
      after = rest;
      text = text;
      is = subst (λ (x : Item). IsItem before row rest text x) same is;
      has = subst (λ (x : Item). has_occurs x ≡ true) same has;
      stands = inl (refl, refl, refl);
    }
one_out false before row rest text item table outer is has e f = f e

-- what the innermost group gives
from_group : (most : ℕ) (items : List Item) (before : List Row) (row : Row) (rest : List Row) (parent : Option ℕ) (table : Item) → parent ≡ parent_of before row
    → ((i : Inner before row) → find has_occurs (around most items (Some i.group.number)) ≡ Some table → IsTable i.ahead i.group (i.later ++ row ∷ rest) table)
    → (groups before row ≡ []) ⊎ Inner before row → find has_occurs (around most items parent) ≡ Some table → IsOuter before row rest table
from_group most items before row rest parent table p f (inl none) e =
    let no_parent : parent ≡ None = p ∙ ap (λ xs. number_of (last_of xs)) none in
    let nothing : None ≡ Some table = sym (ap (λ o. find has_occurs (around most items o)) no_parent ∙ ap (find has_occurs) (none_around most items)) ∙ e in absurd (cc nothing)
from_group most items before row rest parent table p f (inr i) e =
    let is_parent : parent ≡ Some i.group.number = p ∙ ap number_of i.last in
    let t = f i (sym (ap (λ o. find has_occurs (around most items o)) is_parent) ∙ e) in
    record {
      ahead = t.ahead;
      owner = t.owner;
      after = t.after;
      text = t.text;
      is = t.is;
      has = t.has;
      stands = stands_further before row rest i.ahead i.group i.later t.ahead t.owner t.after i.parts i.members i.here t.stands;
    }

-- where the innermost group stands among all rows
whole_at : (rows before : List Row) (row : Row) (rest : List Row) → rows ≡ before ++ row ∷ rest → (i : Inner before row) → rows ≡ i.ahead ++ i.group ∷ (i.later ++ row ∷ rest)
whole_at rows before row rest cut i = cut ∙ ap (λ xs. xs ++ row ∷ rest) i.parts ∙ append_assoc i.ahead (i.group ∷ i.later) (row ∷ rest)

count_at : (rows before : List Row) (row : Row) (rest : List Row) → rows ≡ before ++ row ∷ rest → (i : Inner before row) → NumberedFrom 0 rows → i.group.number ≡ length i.ahead
count_at rows before row rest cut i n =
    let number : i.group.number ≡ 0 + length i.ahead = number_at 0 i.ahead i.group (i.later ++ row ∷ rest) (subst (NumberedFrom 0) (whole_at rows before row rest cut i) n) in number ∙ omega arith

-- what is found around a row, where from any group of it the table of that group is found
outer_found : (rows : List Row) (items : List Item) (most : ℕ) (before : List Row) (row : Row) (rest : List Row) (parent : Option ℕ) (table : Item) → NumberedFrom 0 rows → rows ≡ before ++ row ∷ rest
    → parent ≡ parent_of before row
    → ((ahead : List Row) (group : Row) (after : List Row) → rows ≡ ahead ++ group ∷ after → find has_occurs (around most items (Some (length ahead))) ≡ Some table → IsTable ahead group after table)
    → find has_occurs (around most items parent) ≡ Some table → IsOuter before row rest table
outer_found rows items most before row rest parent table n cut p f e =
    from_group most items before row rest parent table p (λ i g.
    let whole : rows ≡ i.ahead ++ i.group ∷ (i.later ++ row ∷ rest) = whole_at rows before row rest cut i in
    f i.ahead i.group (i.later ++ row ∷ rest) whole (sym (ap (λ m. find has_occurs (around most items (Some m))) (count_at rows before row rest cut i n)) ∙ g)) (inner_of before row) e

found : (rows : List Row) (texts : List Described) (items : List Item) → AreItems [] rows texts items → NumberedFrom 0 rows → (most : ℕ) (before : List Row) (row : Row) (rest : List Row)
    → rows ≡ before ++ row ∷ rest → (table : Item) → find has_occurs (around most items (Some (length before))) ≡ Some table → IsTable before row rest table
found rows texts items h n zero before row rest cut table e = absurd (cc e)
found rows texts items h n (suc most) before row rest cut table e =
    let l = laid_of [] before row rest texts items (subst (λ (xs : List Row). AreItems [] xs texts items) cut h) in
    let chain : around (suc most) items (Some (length before)) ≡ l.item ∷ around most items l.item.parent = ap (λ o. with_item o (around most items (group_of o))) l.here in
    let first : cond (has_occurs l.item) (Some l.item) (find has_occurs (around most items l.item.parent)) ≡ Some table = sym (ap (find has_occurs) chain) ∙ e in
    one_out (has_occurs l.item) before row rest l.text l.item table (find has_occurs (around most items l.item.parent)) l.is refl first (λ g.
    from_outer before row rest table
    (outer_found rows items most before row rest l.item.parent table n cut l.is.parent (λ ahead group after whole e'. found rows texts items h n most ahead group after whole table e') g))

-- ---- no OCCURS inside another

good_at : (pre ahead : List Row) (row : Row) (after : List Row) → faults_after pre (ahead ++ row ∷ after) ≡ [] → is_bad_level (pre ++ ahead) row ≡ false
good_at pre [] row after h =
    let first = empty_parts (row_faults pre row after) (faults_after (pre ++ row ∷ []) after) h in
    subst (λ (xs : List Row). is_bad_level xs row ≡ false) (sym (append-nil pre)) (faultless_row pre row after first.0).level
good_at pre (other ∷ ahead) row after h =
    let first = empty_parts (row_faults pre other (ahead ++ row ∷ after)) (faults_after (pre ++ other ∷ []) (ahead ++ row ∷ after)) h in
    subst (λ (xs : List Row). is_bad_level xs row ≡ false) (append_assoc pre (other ∷ []) ahead) (good_at (pre ++ other ∷ []) ahead row after first.1)

abbrev NotNested : List Row → Type 0
NotNested rows = (ahead : List Row) (row : Row) (after : List Row) → rows ≡ ahead ++ row ∷ after → is_some row.occurs ≡ true → is_repeated ahead row ≡ false

not_nested_in : (rows : List Row) → faults_after [] rows ≡ [] → NotNested rows
not_nested_in rows h ahead row after e o = not_nested ahead row (good_at [] ahead row after (subst (λ (xs : List Row). faults_after [] xs ≡ []) e h)) o

-- ---- no item with OCCURS around another

some_by : (b : Bool) (n : ℕ) → (n == 0) ≡ b → not b ≡ true → (if b then 1 else n) ≡ n
some_by true n e h = absurd (cc h)
some_by false n e h = refl

some_number : (o : Option ℕ) (n : ℕ) → n ≡ occurs_or_zero o → not (n == 0) ≡ true → (is_some o ≡ true) × (number_of_times o ≡ n)
some_number None n e h = let never : false ≡ true = sym (ap (λ m. not (m == 0)) e) ∙ h in absurd (cc never)
some_number (Some m) n e h = let some : not (m == 0) ≡ true = sym (ap (λ k. not (k == 0)) e) ∙ h in (refl, some_by (m == 0) m refl some ∙ sym e)

none_counted : (items : List Item) → find has_occurs items ≡ None → count_by has_occurs items ≡ 0
none_counted [] e = refl
none_counted (item ∷ items) e = sum_by-cons (λ (x : Item). cond (has_occurs x) 1 0) item items ∙ one_less (has_occurs item) item (find has_occurs items) (count_by has_occurs items) e (none_counted items)
  where
    one_less : (b : Bool) (item : Item) (o : Option Item) (n : ℕ) → cond b (Some item) o ≡ None → (o ≡ None → n ≡ 0) → cond b 1 0 + n ≡ 0
    one_less true item o n e f = absurd (cc e)
    one_less false item o n e f = let none = f e in omega (arith, none)

not_found : (o : Option Item) → ((table : Item) → o ≡ Some table → ⊥) → o ≡ None
not_found None f = refl
not_found (Some table) f = absurd (f table refl)

one_more : (b : Bool) (n : ℕ) → (b ≡ true → n ≡ 0) → n ≤ 1 → cond b 1 0 + n ≤ 1
one_more true n f h = let none = f refl in omega (arith, none)
one_more false n f h = omega (arith, h)

-- nothing around a row that has OCCURS has OCCURS
none_outer : (rows before : List Row) (row : Row) (rest : List Row) (text : Described) (item table : Item) → NotNested rows → rows ≡ before ++ row ∷ rest → IsItem before row rest text item → has_occurs item ≡ true
    → IsOuter before row rest table → ⊥
none_outer rows before row rest text item table good cut i has t =
    let here = some_number row.occurs item.occurs i.occurs has in
    let there = some_number t.owner.occurs table.occurs t.is.occurs t.has in
    let rep : is_repeated before row ≡ true = ap (λ xs. is_repeated xs row) t.stands.1 ∙ repeated_of t.ahead t.owner t.stands.0 row t.stands.3 t.stands.4 there.0 in
    let never : true ≡ false = sym rep ∙ good before row rest cut here.0 in cc never

nothing_counted : count_by has_occurs [] ≤ 1
nothing_counted = let none : count_by has_occurs [] ≡ 0 = refl in omega (arith, none)

group_counted : (most : ℕ) (items : List Item) (before : List Row) (row : Row) (parent : Option ℕ) → parent ≡ parent_of before row
    → ((i : Inner before row) → count_by has_occurs (around most items (Some i.group.number)) ≤ 1) → (groups before row ≡ []) ⊎ Inner before row → count_by has_occurs (around most items parent) ≤ 1
group_counted most items before row parent p f (inl none) =
    let nothing : around most items parent ≡ [] = ap (around most items) (p ∙ ap (λ xs. number_of (last_of xs)) none) ∙ none_around most items in
    subst (λ (xs : List Item). count_by has_occurs xs ≤ 1) (sym nothing) nothing_counted
group_counted most items before row parent p f (inr i) = subst (λ (o : Option ℕ). count_by has_occurs (around most items o) ≤ 1) (sym (p ∙ ap number_of i.last)) (f i)

one_counted : (rows : List Row) (texts : List Described) (items : List Item) → AreItems [] rows texts items → NumberedFrom 0 rows → NotNested rows → (most : ℕ) (before : List Row) (row : Row) (rest : List Row)
    → rows ≡ before ++ row ∷ rest → count_by has_occurs (around most items (Some (length before))) ≤ 1
one_counted rows texts items h n good zero before row rest cut = nothing_counted
one_counted rows texts items h n good (suc most) before row rest cut =
    let l = laid_of [] before row rest texts items (subst (λ (xs : List Row). AreItems [] xs texts items) cut h) in
    let chain : around (suc most) items (Some (length before)) ≡ l.item ∷ around most items l.item.parent = ap (λ o. with_item o (around most items (group_of o))) l.here in
    let few : count_by has_occurs (around most items l.item.parent) ≤ 1 = group_counted most items before row l.item.parent l.is.parent (λ i.
    let count = count_at rows before row rest cut i n in
    subst (λ (m : ℕ). count_by has_occurs (around most items (Some m)) ≤ 1) (sym count) (one_counted rows texts items h n good most i.ahead i.group (i.later ++ row ∷ rest) (whole_at rows before row rest cut i))) (inner_of before row) in
    let none : has_occurs l.item ≡ true → count_by has_occurs (around most items l.item.parent) ≡ 0 = λ has.
    none_counted (around most items l.item.parent) (not_found (find has_occurs (around most items l.item.parent)) (λ table e.
    none_outer rows before row rest l.text l.item table good cut l.is has
    (outer_found rows items most before row rest l.item.parent table n cut l.is.parent (λ ahead group after whole e'. found rows texts items h n most ahead group after whole table e') e))) in
    let one : count_by has_occurs (l.item ∷ around most items l.item.parent) ≤ 1 =
    rw (sum_by-cons (λ (x : Item). cond (has_occurs x) 1 0) l.item (around most items l.item.parent)) (one_more (has_occurs l.item) (count_by has_occurs (around most items l.item.parent)) none few) in
    subst (λ (xs : List Item). count_by has_occurs xs ≤ 1) (sym chain) one

none_there : (most : ℕ) (items : List Item) (number : ℕ) → slice_get items number ≡ None → around most items (Some number) ≡ []
none_there zero items number e = refl
none_there (suc most) items number e = ap (λ o. with_item o (around most items (group_of o))) e

apart_at : (rows : List Row) (texts : List Described) (items : List Item) (number : ℕ) (o : Option Item) → AreItems [] rows texts items → NumberedFrom 0 rows → NotNested rows → slice_get items number ≡ o
    → count_by has_occurs (around_item items number) ≤ 1
apart_at rows texts items number None h n good e = subst (λ (xs : List Item). count_by has_occurs xs ≤ 1) (sym (none_there (length items) items number e)) nothing_counted
apart_at rows texts items number (Some item) h n good e =
    let s = split_at [] rows texts items number item h e in
    subst (λ (m : ℕ). count_by has_occurs (around_item items m) ≤ 1) s.count (one_counted rows texts items h n good (length items) s.before s.row s.rest s.parts)

pub tables_apart : (rows : List Row) (texts : List Described) (layout : Layout) → AreItems [] rows texts layout.items → NumberedFrom 0 rows → faults_after [] rows ≡ [] → AreTablesApart layout
tables_apart rows texts layout h n faultless number = apart_at rows texts layout.items number (slice_get layout.items number) h n (not_nested_in rows faultless) refl

-- ---- one list cut at two rows

abbrev Cuts : List Row → Row → List Row → List Row → Row → List Row → Type 0
Cuts ahead row later front other behind =
    ((ahead ≡ front) × (row ≡ other) × (later ≡ behind))
    ⊎ (((mid : List Row) × (front ≡ ahead ++ row ∷ mid) × (later ≡ mid ++ other ∷ behind)) ⊎ ((mid : List Row) × (ahead ≡ front ++ other ∷ mid) × (behind ≡ mid ++ row ∷ later)))

cuts_after : (x y : Row) (ahead : List Row) (row : Row) (later front : List Row) (other : Row) (behind : List Row) → x ≡ y → Cuts ahead row later front other behind
    → Cuts (x ∷ ahead) row later (y ∷ front) other behind
cuts_after x y ahead row later front other behind e (inl h) = inl (cc (e, h.0), h.1, h.2)
cuts_after x y ahead row later front other behind e (inr (inl h)) = inr (inl (h.0, cc (e, h.1), h.2))
cuts_after x y ahead row later front other behind e (inr (inr h)) = inr (inr (h.0, cc (e, h.1), h.2))

cuts : (ahead : List Row) (row : Row) (later front : List Row) (other : Row) (behind : List Row) → ahead ++ row ∷ later ≡ front ++ other ∷ behind → Cuts ahead row later front other behind
cuts [] row later [] other behind e = inl (refl, cc e, cc e)
cuts [] row later (y ∷ front) other behind e = inr (inl (front, cc e, cc e))
cuts (x ∷ ahead) row later [] other behind e = inr (inr (ahead, cc e, cc e))
cuts (x ∷ ahead) row later (y ∷ front) other behind e =
    let first : x ≡ y = cc e in
    let others : ahead ++ row ∷ later ≡ front ++ other ∷ behind = cc e in cuts_after x y ahead row later front other behind first (cuts ahead row later front other behind others)

all_parts : (group : Row) (a : List Row) (row : Row) (b : List Row) → list_all (goes_on group) (a ++ row ∷ b) ≡ true → (list_all (goes_on group) a ≡ true) × (goes_on group row ≡ true)
all_parts group a row b h =
    let two = both (list_all (goes_on group) a) (goes_on group row && list_all (goes_on group) b) (sym (list_all-append (goes_on group) a (row ∷ b)) ∙ h) in
    (two.0, (both (goes_on group row) (list_all (goes_on group) b) two.1).0)

-- ---- offsets

plain_offset : (before : List Row) (row : Row) (offset : ℕ) → is_repeated before row ≡ false → IsOffset before row offset → offset ≡ storage before
plain_offset before row offset free (inl h) = h.1
plain_offset before row offset free (inr (front, other, behind, parts, all, occurs, e)) =
    let two = all_parts other behind row [] all in
    let rep : is_repeated before row ≡ true = ap (λ xs. is_repeated xs row) parts ∙ repeated_of front other behind row two.0 two.1 occurs in
    let never : true ≡ false = sym rep ∙ free in absurd (cc never)

same_table : (before : List Row) (row : Row) (ahead : List Row) (owner : Row) (later front : List Row) (other : Row) (behind : List Row) → is_repeated ahead owner ≡ false → is_repeated front other ≡ false
    → list_all (goes_on owner) later ≡ true → is_some owner.occurs ≡ true → list_all (goes_on other) behind ≡ true → is_some other.occurs ≡ true → Cuts ahead owner later front other behind
    → storage front + sum_by own_size (other ∷ behind) ≡ storage ahead + sum_by own_size (owner ∷ later)
same_table before row ahead owner later front other behind free free' all occurs all' occurs' (inl h) = rw (h.0, h.1, h.2) refl
same_table before row ahead owner later front other behind free free' all occurs all' occurs' (inr (inl (mid, front_is, later_is))) =
    let two = all_parts owner mid other behind (subst (λ (xs : List Row). list_all (goes_on owner) xs ≡ true) later_is all) in
    let rep : is_repeated front other ≡ true = ap (λ xs. is_repeated xs other) front_is ∙ repeated_of ahead owner mid other two.0 two.1 occurs in
    let never : true ≡ false = sym rep ∙ free' in absurd (cc never)
same_table before row ahead owner later front other behind free free' all occurs all' occurs' (inr (inr (mid, ahead_is, behind_is))) =
    let two = all_parts other mid owner later (subst (λ (xs : List Row). list_all (goes_on other) xs ≡ true) behind_is all') in
    let rep : is_repeated ahead owner ≡ true = ap (λ xs. is_repeated xs owner) ahead_is ∙ repeated_of front other mid owner two.0 two.1 occurs' in
    let never : true ≡ false = sym rep ∙ free in absurd (cc never)

-- in a table a row's offset is the table's, and what stands before it there
offset_in : (before : List Row) (row : Row) (rest ahead : List Row) (owner : Row) (later : List Row) (offset : ℕ) → NotNested (before ++ row ∷ rest) → before ≡ ahead ++ owner ∷ later
    → list_all (goes_on owner) later ≡ true → goes_on owner row ≡ true → is_some owner.occurs ≡ true → IsOffset before row offset → offset ≡ storage ahead + sum_by own_size (owner ∷ later)
offset_in before row rest ahead owner later offset good parts all here occurs (inl h) =
    let rep : is_repeated before row ≡ true = ap (λ xs. is_repeated xs row) parts ∙ repeated_of ahead owner later row all here occurs in
    let never : true ≡ false = sym rep ∙ h.0 in absurd (cc never)
offset_in before row rest ahead owner later offset good parts all here occurs (inr (front, other, behind, parts', all', occurs', e)) =
    let one : before ++ row ∷ rest ≡ ahead ++ owner ∷ (later ++ row ∷ rest) = ap (λ xs. xs ++ row ∷ rest) parts ∙ append_assoc ahead (owner ∷ later) (row ∷ rest) in
    let two : before ++ row ∷ rest ≡ front ++ other ∷ (behind ++ row ∷ rest) = ap (λ xs. xs ++ row ∷ rest) parts' ∙ append_assoc front (other ∷ behind) (row ∷ rest) in
    e ∙ same_table before row ahead owner later front other behind (good ahead owner (later ++ row ∷ rest) one occurs) (good front other (behind ++ row ∷ rest) two occurs')
    all occurs (all_parts other behind row [] all').0 occurs' (cuts ahead owner later front other behind (sym parts ∙ parts'))

-- ---- each occurrence

-- an item that has OCCURS itself
own_case : (before : List Row) (row : Row) (rest : List Row) (text other : Described) (item table : Item) (k : ℕ) → NotNested (before ++ row ∷ rest) → IsItem before row rest text item
    → IsItem before row rest other table → has_occurs table ≡ true → k < table.occurs → item.offset + k * table.size + item.size ≤ storage (before ++ row ∷ rest)
own_case before row rest text other item table k good i t has h =
    let number = some_number row.occurs table.occurs t.occurs has in
    let offset : item.offset ≡ storage before = plain_offset before row item.offset (good before row rest refl number.0) i.offset in
    let far : k * table.size ≡ k * size_of row rest = ap (λ n. k * n) t.size in
    let most : k * size_of row rest + size_of row rest ≤ own_size row * number_of_times row.occurs + number_of_times row.occurs * storage (members row rest) =
    own_within row.group row rest k refl (subst (λ n. k < n) (sym number.1) h) in
    omega (arith, offset, far, most, i.size, table_le before row rest)

-- an item in a group that has OCCURS
in_case : (before : List Row) (row : Row) (rest ahead : List Row) (owner : Row) (later : List Row) (text other : Described) (item table : Item) (k : ℕ) → NotNested (before ++ row ∷ rest)
    → before ≡ ahead ++ owner ∷ later → list_all (goes_on owner) later ≡ true → goes_on owner row ≡ true → IsItem before row rest text item → IsItem ahead owner (later ++ row ∷ rest) other table
    → has_occurs table ≡ true → k < table.occurs → item.offset + k * table.size + item.size ≤ storage (before ++ row ∷ rest)
in_case before row rest ahead owner later text other item table k good parts all here i t has h =
    let after : List Row = later ++ row ∷ rest in
    let number = some_number owner.occurs table.occurs t.occurs has in
    let offset : item.offset ≡ storage ahead + sum_by own_size (owner ∷ later) = offset_in before row rest ahead owner later item.offset good parts all here number.0 i.offset in
    let sum : sum_by own_size (owner ∷ later) ≡ own_size owner + sum_by own_size later = sum_by-cons own_size owner later in
    let part : sum_by own_size later + size_of row rest ≤ storage (members owner (later ++ row ∷ rest)) = part_le owner later row rest all here in
    let far : k * table.size ≡ k * size_of owner (later ++ row ∷ rest) = ap (λ n. k * n) t.size in
    let most : own_size owner + (sum_by own_size later + size_of row rest) + k * size_of owner (later ++ row ∷ rest) ≤ own_size owner * number_of_times owner.occurs + number_of_times owner.occurs * storage (members owner (later ++ row ∷ rest)) =
    in_within owner.group owner (later ++ row ∷ rest) k (sum_by own_size later + size_of row rest) refl (subst (λ n. k < n) (sym number.1) h) part in
    let whole : storage (before ++ row ∷ rest) ≡ storage (ahead ++ owner ∷ (later ++ row ∷ rest)) = ap storage (ap (λ xs. xs ++ row ∷ rest) parts ∙ append_assoc ahead (owner ∷ later) (row ∷ rest)) in
    omega (arith, offset, sum, far, most, whole, i.size, table_le ahead owner (later ++ row ∷ rest))

by_stand : (before : List Row) (row : Row) (rest ahead : List Row) (owner : Row) (after : List Row) (text other : Described) (item table : Item) (k : ℕ) → NotNested (before ++ row ∷ rest)
    → IsItem before row rest text item → IsItem ahead owner after other table → has_occurs table ≡ true → k < table.occurs → Stands before row rest ahead owner after
    → item.offset + k * table.size + item.size ≤ storage (before ++ row ∷ rest)
by_stand before row rest ahead owner after text other item table k good i t has h (inl s) = own_case before row rest text other item table k good i (rw (s.0, s.1, s.2) t) has h
by_stand before row rest ahead owner after text other item table k good i t has h (inr (later, cut, behind, all, here)) =
    in_case before row rest ahead owner later text other item table k good cut all here i (subst (λ (xs : List Row). IsItem ahead owner xs other table) behind t) has h

by_table : (rows : List Row) (texts : List Described) (items : List Item) (before : List Row) (row : Row) (rest : List Row) (text : Described) (item : Item) (o : Option Item) (k : ℕ) → AreItems [] rows texts items
    → NumberedFrom 0 rows → faults_after [] rows ≡ [] → rows ≡ before ++ row ∷ rest → IsItem before row rest text item → table_around items (length before) ≡ o → k < times_of o
    → item.offset + k * stride_of o + item.size ≤ storage rows
by_table rows texts items before row rest text item None k h n faultless cut i e less =
    let whole : storage rows ≡ storage (before ++ row ∷ rest) = ap storage cut in
    let low = offset_le before row item.offset i.offset in
    omega (arith, less, whole, low, i.size, size_le before row rest)
by_table rows texts items before row rest text item (Some table) k h n faultless cut i e less =
    let whole : storage rows ≡ storage (before ++ row ∷ rest) = ap storage cut in
    let t = found rows texts items h n (length items) before row rest cut table e in
    let good : NotNested (before ++ row ∷ rest) = subst NotNested cut (not_nested_in rows faultless) in
    let most = by_stand before row rest t.ahead t.owner t.after text t.text item table k good i t.is t.has less t.stands in
    omega (arith, whole, most)

pub each_inside : (rows : List Row) (texts : List Described) (layout : Layout) → AreItems [] rows texts layout.items → NumberedFrom 0 rows → faults_after [] rows ≡ [] → layout.total ≡ storage rows
    → AreOccurrencesInside layout
each_inside rows texts layout h n faultless total number item here k less =
    let s = split_at [] rows texts layout.items number item h here in
    let l = laid_of [] s.before s.row s.rest texts layout.items (subst (λ (xs : List Row). AreItems [] xs texts layout.items) s.parts h) in
    let there : slice_get layout.items (length s.before) ≡ Some item = ap (slice_get layout.items) s.count ∙ here in
    let both_are : Some l.item ≡ Some item = sym l.here ∙ there in
    let same : l.item ≡ item = cc both_are in
    let is : IsItem s.before s.row s.rest l.text item = subst (λ (x : Item). IsItem s.before s.row s.rest l.text x) same l.is in
    let table : table_around layout.items (length s.before) ≡ table_around layout.items number = ap (table_around layout.items) s.count in
    let most = by_table rows texts layout.items s.before s.row s.rest l.text item (table_around layout.items number) k h n faultless s.parts is table less in
    omega (arith, most, total)

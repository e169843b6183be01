-- What one more item does: it stands as before, and what it adds matches exactly where its law holds.
use Rattle.std.proofs.Common.{◌≡◌, ℕ, ◌+◌, ◌*◌, ◌||◌, ◌&&◌, refl, sym, ◌∙◌, ap, subst, arith, Bool, true, false, List, [], ◌∷◌, ◌++◌, length, take, drop, append_assoc, append-nil, sum_by, Some, None, length-append}
use Rattle.std.specs.Prelude.{if◌then◌else◌, is_some, not}
use Rattle.std.specs.List.{list_any, list_all}
use Rattle.std.proofs.lemmas.List.{map-append, drop-drop}
use Rattle.std.proofs.lemmas.List.Sums.{sum_by-cons}
use Rattle.std.proofs.lemmas.List.Folds.{list_all-append, list_any-append}
use Rattle.data_layout.specs.declared.row.Row.{Row}
use Rattle.data_layout.specs.declared.layout.Item.{Item}
use Rattle.data_layout.specs.declared.layout.Layout.{Layout}
use Rattle.data_layout.specs.Storage.{goes_on, own_size, number_of_times, storage, is_repeated}
use Rattle.data_layout.specs.Layout.{size_of}
use Rattle.data_layout.proofs.Places.{NextIs, repeated_of}
use Rattle.data_names.specs.Items.{DataItem}
use Rattle.data_names.specs.Spots.{spot_of, has_value}
use Rattle.opening_storage.specs.Opening.{Opens, gives_bytes}
use Rattle.opening_storage.specs.Filling.{Once, Filled, often, own_bytes, may_give}
use Rattle.opening_storage.proofs.Lists.{length-often, front_more, front_less, behind, often_front, often_behind}
use Rattle.opening_storage.proofs.Groups.{both, both_are, neither, neither_is, not_both, all_further, clear_after_one}
use Rattle.opening_storage.proofs.Sums.{all-map, repeated_rows, has_occurs, bytes_of_one, next_more, next_first}
use Rattle.opening_storage.proofs.Members.{Fact, Facts, given, rows_of, in_value_at, repeated_at, Clear, Outside, InValue, outside_after, clear_after}
use Rattle.opening_storage.proofs.Tables.{InTable, Standing, Matches, stride_at}
use Rattle.opening_storage.proofs.ItemLaws.{Each, size_at, occurs_in, in_the_table, not_nested, offset_outside, opens_forth, opens_back, opens_none}

-- ---- what is told of a step

pub record Step (layout : Layout) (stride : ℕ) (filled : Filled) (before : List DataItem) (x : DataItem) (rest : List DataItem) (place : Item) (now : Filled) : Type 0 where
  pub ms : List DataItem
  pub ns : List DataItem
  pub parts : rest ≡ ms ++ ns
  pub in_value : InValue (before ++ x ∷ []) ms
  pub after : ℕ
  pub stands : Standing layout.items after ((before ++ x ∷ []) ++ ms) ns now
  pub forth : (b : List ℕ) → Matches stride b filled → Opens layout b (spot_of before x rest) place → Matches after b now
  pub back : (b : List ℕ) → Matches after b now → Matches stride b filled × Opens layout b (spot_of before x rest) place

-- ---- bytes again and again

further : (b : List ℕ) (start k n : ℕ) → drop (k * n) (drop start b) ≡ drop (start + k * n) b
further b start k n = drop-drop (k * n) start b

each_front : (b bytes c : List ℕ) (times offset size : ℕ) → offset ≡ length bytes → length c ≡ size → Each b times offset size size c → take (length (often times c)) (drop (length bytes) b) ≡ often times c
each_front b bytes c times offset size o s h =
    often_front times c (drop (length bytes) b) (λ k l.
    ap (take (length c)) (further b (length bytes) k (length c)) ∙ ap (λ n. take n (drop (length bytes + k * n) b)) s
    ∙ ap (λ n. take size (drop (n + k * size) b)) (sym o) ∙ h k l)

each_back : (b bytes c : List ℕ) (times offset size : ℕ) → offset ≡ length bytes → length c ≡ size → take (length (often times c)) (drop (length bytes) b) ≡ often times c → Each b times offset size size c
each_back b bytes c times offset size o s h k l =
    ap (λ n. take size (drop (n + k * size) b)) o ∙ sym (ap (λ n. take n (drop (length bytes + k * n) b)) s) ∙ sym (ap (take (length c)) (further b (length bytes) k (length c)))
    ∙ often_behind times c (drop (length bytes) b) h k l

-- ---- rows behind others

rows_split : (before : List DataItem) (xs : List DataItem) → rows_of (before ++ xs) ≡ rows_of before ++ rows_of xs
rows_split before xs = map-append (λ (item : DataItem). item.row) before xs

pub repeated_is : (before : List DataItem) (x : DataItem) (b : Bool) → repeated_at before x ≡ b → is_repeated (rows_of before) x.row ≡ b
repeated_is before x b h = sym (repeated_rows (λ (item : DataItem). item.row) before x) ∙ h

pub gives_is : (before : List DataItem) (x : DataItem) (rest : List DataItem) → may_give x ≡ true → in_value_at before x ≡ false → gives_bytes (spot_of before x rest) ≡ true
gives_is before x rest g v = both_are (may_give x) (not (in_value_at before x)) g (ap not v)

pub gives_not : (before : List DataItem) (x : DataItem) (rest : List DataItem) → may_give x ≡ false → gives_bytes (spot_of before x rest) ≡ false
gives_not before x rest g = ap (λ b. b && not (in_value_at before x)) g

pub in_value_not : (before : List DataItem) (x : DataItem) (rest : List DataItem) → in_value_at before x ≡ true → gives_bytes (spot_of before x rest) ≡ false
in_value_not before x rest v = not_both (may_give x) (not (in_value_at before x)) (ap not v)

pub stands_at : (places : List Item) (stride : ℕ) (before : List DataItem) (x : DataItem) (ms ns : List DataItem) (now : Filled) → Standing places stride (before ++ x ∷ ms) ns now
    → Standing places stride ((before ++ x ∷ []) ++ ms) ns now
stands_at places stride before x ms ns now s = subst (λ ahead. Standing places stride ahead ns now) (sym (append_assoc before (x ∷ []) ms)) s

-- ---- an item outside tables that gives bytes

pub gives_outside : (layout : Layout) (total stride : ℕ) (bytes : List ℕ) (before : List DataItem) (x : DataItem) (rest : List DataItem) (place : Item) → Fact layout.items total before x rest place
    → length bytes ≡ storage (rows_of before) → repeated_at before x ≡ false → in_value_at before x ≡ false → may_give x ≡ true
    → Step layout stride (record { bytes = bytes; table = None }) before x rest place (record { bytes = bytes ++ often (number_of_times x.row.occurs) (own_bytes x place.picture); table = None })
gives_outside layout total stride bytes before x rest place f l out v g =
    let n : ℕ = number_of_times x.row.occurs in
    let c : List ℕ = own_bytes x place.picture in
    let gives : gives_bytes (spot_of before x rest) ≡ true = gives_is before x rest g v in
    let size : length c ≡ place.size = f.given gives in
    let cover = given before x rest place.size g f.size f.alone in
    let offset : place.offset ≡ length bytes = offset_outside (rows_of before) x.row place.offset f.offset (repeated_is before x false out) ∙ sym l in
    let long : length (bytes ++ often n c) ≡ storage (rows_of (before ++ x ∷ cover.ms)) =
    length-append bytes (often n c) ∙ ap (λ m. length bytes + m) (length-often n c) ∙ ap (λ m. length bytes + n * m) size ∙ ap (λ m. m + n * place.size) l ∙ sym (cover.bytes out) in
    record {
      ms = cover.ms;
      ns = cover.ns;
      parts = cover.parts;
      in_value = cover.in_value;
      after = stride;
      stands = stands_at layout.items stride before x cover.ms cover.ns (record { bytes = bytes ++ often n c; table = None })
          (record { clear = clear_after before x cover.ms cover.ns v cover.all cover.leaves; cursor = (long, outside_after before x cover.ms cover.ns out cover.all cover.leaves) });
      forth = λ b m h. front_more b bytes (often n c) m
          (each_front b bytes c n place.offset place.size offset size (opens_forth layout b before x rest place out gives f.numbered h));
      back = λ b m. (
        front_less b bytes (often n c) m,
        opens_back layout b before x rest place out f.numbered (each_back b bytes c n place.offset place.size offset size (behind b bytes (often n c) m)),
      );
    }

-- ---- an item outside tables that gives none

pub is_group : (x : DataItem) → may_give x ≡ false → (x.row.group ≡ true) × (has_value x ≡ false)
is_group x h =
    let parts = neither (not x.row.group) (has_value x) h in (not_false x.row.group parts.0, parts.1)
  where
    not_false : (b : Bool) → not b ≡ false → b ≡ true
    not_false true h = refl
    not_false false h = cc

pub clear_behind : (before : List DataItem) (x : DataItem) (rest : List DataItem) → in_value_at before x ≡ false → has_value x ≡ false → Clear (before ++ x ∷ []) rest
clear_behind before x [] v h = tt
clear_behind before x (y ∷ rest) v h = clear_after_one (λ (item : DataItem). item.row) has_value before x y v (not_both (goes_on x.row y.row) (has_value x) h)

outside_behind : (before : List DataItem) (x : DataItem) (rest : List DataItem) → repeated_at before x ≡ false → occurs_in x ≡ false → Outside (before ++ x ∷ []) rest
outside_behind before x [] v h = tt
outside_behind before x (y ∷ rest) v h = clear_after_one (λ (item : DataItem). item.row) occurs_in before x y v (not_both (goes_on x.row y.row) (occurs_in x) h)

pub no_bytes : (row : Row) → row.group ≡ true → own_size row ≡ 0
no_bytes row e = ap (λ b. if b then 0 else row.size) e

same_place : (before : List DataItem) (x : DataItem) → repeated_at before x ≡ false → x.row.group ≡ true → storage (rows_of (before ++ x ∷ [])) ≡ storage (rows_of before)
same_place before x out e =
    ap storage (rows_split before (x ∷ [])) ∙ bytes_of_one (rows_of before) x.row (repeated_is before x false out)
    ∙ ap (λ o. storage (rows_of before) + number_of_times x.row.occurs * o) (no_bytes x.row e) ∙ omega arith

pub groups_outside : (layout : Layout) (total stride : ℕ) (bytes : List ℕ) (before : List DataItem) (x : DataItem) (rest : List DataItem) (place : Item) → Fact layout.items total before x rest place
    → length bytes ≡ storage (rows_of before) → repeated_at before x ≡ false → in_value_at before x ≡ false → may_give x ≡ false → occurs_in x ≡ false
    → Step layout stride (record { bytes = bytes; table = None }) before x rest place (record { bytes = bytes; table = None })
groups_outside layout total stride bytes before x rest place f l out v g o =
    let parts = is_group x g in
    record {
      ms = [];
      ns = rest;
      parts = refl;
      in_value = tt;
      after = stride;
      stands = stands_at layout.items stride before x [] rest (record { bytes = bytes; table = None })
          (record { clear = clear_behind before x rest v parts.1; cursor = (l ∙ sym (same_place before x out parts.0), outside_behind before x rest out o) });
      forth = λ b m h. m;
      back = λ b m. (m, opens_none layout b (spot_of before x rest) place (gives_not before x rest g));
    }

pub tables_outside : (layout : Layout) (total stride : ℕ) (bytes : List ℕ) (before : List DataItem) (x : DataItem) (rest : List DataItem) (place : Item) → Fact layout.items total before x rest place
    → length bytes ≡ storage (rows_of before) → repeated_at before x ≡ false → in_value_at before x ≡ false → may_give x ≡ false → occurs_in x ≡ true
    → Step layout stride (record { bytes = bytes; table = None }) before x rest place (record { bytes = bytes; table = Some (record { bytes = []; times = number_of_times x.row.occurs }) })
tables_outside layout total stride bytes before x rest place f l out v g o =
    let parts = is_group x g in
    let far : stride_at layout.items x ≡ place.size = size_at layout.items x.row.number place f.numbered in
    let begins : storage (rows_of before) ≡ length bytes + 0 = sym l ∙ omega arith in
    let next : NextIs (rows_of (before ++ x ∷ [])) (length bytes + 0) =
    subst (λ rows. NextIs rows (length bytes + 0)) (sym (rows_split before (x ∷ [])))
    (subst (λ n. NextIs (rows_of before ++ x.row ∷ []) n) begins (next_first (rows_of before) x.row (repeated_is before x false out) parts.0)) in
    let table : InTable layout.items place.size (before ++ x ∷ []) rest bytes (record { bytes = []; times = number_of_times x.row.occurs }) =
    record {
      before = before;
      table = x;
      later = [];
      parts = refl;
      members = refl;
      plain = refl;
      group = parts.0;
      occurs = o;
      outside = out;
      times = refl;
      begins = l;
      place = next;
      far = far;
      stride_is = f.size;
    } in
    record {
      ms = [];
      ns = rest;
      parts = refl;
      in_value = tt;
      after = place.size;
      stands = stands_at layout.items place.size before x [] rest (record { bytes = bytes; table = Some (record { bytes = []; times = number_of_times x.row.occurs }) })
          (record { clear = clear_behind before x rest v parts.1; cursor = table });
      forth = λ b m h. (m, λ k l. refl);
      back = λ b m. (m.0, opens_none layout b (spot_of before x rest) place (gives_not before x rest g));
    }

-- ---- members of a table

table_rows : (before : List DataItem) (table : DataItem) (later : List DataItem) → rows_of (before ++ table ∷ later) ≡ rows_of before ++ table.row ∷ rows_of later
table_rows before table later = rows_split before (table ∷ later)

list_more : (g : Row) (xs : List Row) (m : Row) → list_all (goes_on g) xs ≡ true → goes_on g m ≡ true → list_all (goes_on g) (xs ++ m ∷ []) ≡ true
list_more g xs m h k = list_all-append (goes_on g) xs (m ∷ []) ∙ both_are (list_all (goes_on g) xs) (goes_on g m && true) h (both_are (goes_on g m) true k refl)

-- members of a table have no OCCURS
pub members_plain : (places : List Item) (total : ℕ) (front : List Row) (table : Row) (later : List Row) (pre ms ns : List DataItem) (ps : List Item) → rows_of pre ≡ front ++ table ∷ later
    → list_all (goes_on table) later ≡ true → list_all (λ (m : DataItem). goes_on table m.row) ms ≡ true → is_some table.occurs ≡ true → Facts places total pre (ms ++ ns) ps
    → list_any has_occurs (rows_of ms) ≡ false
members_plain places total front table later pre [] ns ps e h k o f = refl
members_plain places total front table later pre (m ∷ ms) ns [] e h k o f = absurd f
members_plain places total front table later pre (m ∷ ms) ns (p ∷ ps) e h k o f =
    let parts = both (goes_on table m.row) (list_all (λ (x : DataItem). goes_on table x.row) ms) k in
    let rep : is_repeated (rows_of pre) m.row ≡ true = ap (λ xs. is_repeated xs m.row) e ∙ repeated_of front table later m.row h parts.0 o in
    let more : rows_of (pre ++ m ∷ []) ≡ front ++ table ∷ (later ++ m.row ∷ []) = rows_split pre (m ∷ []) ∙ ap (λ xs. xs ++ m.row ∷ []) e ∙ append_assoc front (table ∷ later) (m.row ∷ []) in
    neither_is (has_occurs m.row) (list_any has_occurs (rows_of ms)) (not_nested (rows_of pre) m.row f.0.level rep)
    (members_plain places total front table (later ++ m.row ∷ []) (pre ++ m ∷ []) ms ns ps more (list_more table later m.row h parts.0) parts.1 o f.1)

-- the next place behind some members
pub members_next : (front : List Row) (table : Row) (later rows ms : List Row) (next : ℕ) → rows ≡ front ++ table ∷ later → list_all (goes_on table) later ≡ true → list_all (goes_on table) ms ≡ true
    → is_some table.occurs ≡ true → list_any has_occurs ms ≡ false → NextIs rows next → NextIs (rows ++ ms) (next + sum_by own_size ms)
members_next front table later rows [] next e h k o p n =
    let same : next ≡ next + sum_by own_size [] = omega arith in
    subst (λ xs. NextIs xs (next + sum_by own_size [])) (sym (append-nil rows)) (subst (λ m. NextIs rows m) same n)
members_next front table later rows (m ∷ ms) next e h k o p n =
    let parts = both (goes_on table m) (list_all (goes_on table) ms) k in
    let plain = neither (has_occurs m) (list_any has_occurs ms) p in
    let rep : is_repeated rows m ≡ true = ap (λ xs. is_repeated xs m) e ∙ repeated_of front table later m h parts.0 o in
    let more : rows ++ m ∷ [] ≡ front ++ table ∷ (later ++ m ∷ []) = ap (λ xs. xs ++ m ∷ []) e ∙ append_assoc front (table ∷ later) (m ∷ []) in
    let one : NextIs (rows ++ m ∷ []) (next + own_size m) = next_more rows m next n rep plain.0 in
    let all : NextIs ((rows ++ m ∷ []) ++ ms) ((next + own_size m) + sum_by own_size ms) =
    members_next front table (later ++ m ∷ []) (rows ++ m ∷ []) ms (next + own_size m) more (list_more table later m h parts.0) parts.1 o plain.1 one in
    let size : (next + own_size m) + sum_by own_size ms ≡ next + sum_by own_size (m ∷ ms) = omega (arith, sum_by-cons own_size m ms) in
    subst (λ xs. NextIs xs (next + sum_by own_size (m ∷ ms))) (append_assoc rows (m ∷ []) ms) (subst (λ s. NextIs ((rows ++ m ∷ []) ++ ms) s) size all)

-- a table with more members
pub in_table_more : (places : List Item) (total stride : ℕ) (before : List DataItem) (x : DataItem) (ms ns : List DataItem) (ps : List Item) (bytes : List ℕ) (once : Once) (c : List ℕ)
    → InTable places stride before (x ∷ (ms ++ ns)) bytes once → repeated_at before x ≡ true → is_some x.row.occurs ≡ false → list_all (λ (m : DataItem). goes_on x.row m.row) ms ≡ true
    → Facts places total (before ++ x ∷ []) (ms ++ ns) ps → (list_any has_occurs (rows_of ms) ≡ false → length c ≡ own_size x.row + sum_by own_size (rows_of ms))
    → InTable places stride (before ++ x ∷ ms) ns bytes (record { bytes = once.bytes ++ c; times = once.times })
in_table_more places total stride before x ms ns ps bytes once c t rep none all f size =
    let here : goes_on t.table.row x.row ≡ true = in_the_table t.before t.table t.later x t.outside t.members t.plain (subst (λ xs. repeated_at xs x ≡ true) t.parts rep) in
    let members : list_all (λ (m : DataItem). goes_on t.table.row m.row) ms ≡ true = all_further (λ (item : DataItem). item.row) t.table.row x.row ms here all in
    let later : list_all (goes_on t.table.row) (rows_of t.later) ≡ true = all-map (λ (item : DataItem). item.row) (goes_on t.table.row) t.later ∙ t.members in
    let rows : rows_of before ≡ rows_of t.before ++ t.table.row ∷ rows_of t.later = ap rows_of t.parts ∙ table_rows t.before t.table t.later in
    let after : rows_of (before ++ x ∷ []) ≡ rows_of t.before ++ t.table.row ∷ (rows_of t.later ++ x.row ∷ []) =
    rows_split before (x ∷ []) ∙ ap (λ xs. xs ++ x.row ∷ []) rows ∙ append_assoc (rows_of t.before) (t.table.row ∷ rows_of t.later) (x.row ∷ []) in
    let plain : list_any has_occurs (rows_of ms) ≡ false =
    members_plain places total (rows_of t.before) t.table.row (rows_of t.later ++ x.row ∷ []) (before ++ x ∷ []) ms ns ps after (list_more t.table.row (rows_of t.later) x.row later here) members t.occurs f in
    let one : NextIs (rows_of before ++ x.row ∷ []) ((length bytes + length once.bytes) + own_size x.row) =
    next_more (rows_of before) x.row (length bytes + length once.bytes) t.place (repeated_is before x true rep) none in
    let next : NextIs ((rows_of before ++ x.row ∷ []) ++ rows_of ms) (((length bytes + length once.bytes) + own_size x.row) + sum_by own_size (rows_of ms)) =
    members_next (rows_of t.before) t.table.row (rows_of t.later ++ x.row ∷ []) (rows_of before ++ x.row ∷ []) (rows_of ms) ((length bytes + length once.bytes) + own_size x.row)
    (sym (rows_split before (x ∷ [])) ∙ after) (list_more t.table.row (rows_of t.later) x.row later here) (all-map (λ (item : DataItem). item.row) (goes_on t.table.row) ms ∙ members) t.occurs plain one in
    let whole : (rows_of before ++ x.row ∷ []) ++ rows_of ms ≡ rows_of (before ++ x ∷ ms) = append_assoc (rows_of before) (x.row ∷ []) (rows_of ms) ∙ sym (rows_split before (x ∷ ms)) in
    let long : ((length bytes + length once.bytes) + own_size x.row) + sum_by own_size (rows_of ms) ≡ length bytes + length (once.bytes ++ c) = omega (arith, size plain, length-append once.bytes c) in
    let joined : t.later ++ x ∷ (ms ++ ns) ≡ (t.later ++ x ∷ ms) ++ ns = sym (append_assoc t.later (x ∷ ms) ns) in
    record {
      before = t.before;
      table = t.table;
      later = t.later ++ x ∷ ms;
      parts = ap (λ xs. xs ++ x ∷ ms) t.parts ∙ append_assoc t.before (t.table ∷ t.later) (x ∷ ms);
      members = list_all-append (λ (y : DataItem). goes_on t.table.row y.row) t.later (x ∷ ms)
          ∙ both_are (list_all (λ (y : DataItem). goes_on t.table.row y.row) t.later) (goes_on t.table.row x.row && list_all (λ (y : DataItem). goes_on t.table.row y.row) ms) t.members
          (both_are (goes_on t.table.row x.row) (list_all (λ (y : DataItem). goes_on t.table.row y.row) ms) here members);
      plain = ap (list_any has_occurs) (rows_split t.later (x ∷ ms)) ∙ list_any-append has_occurs (rows_of t.later) (x.row ∷ rows_of ms)
          ∙ neither_is (list_any has_occurs (rows_of t.later)) (has_occurs x.row || list_any has_occurs (rows_of ms)) t.plain
          (neither_is (has_occurs x.row) (list_any has_occurs (rows_of ms)) none plain);
      group = t.group;
      occurs = t.occurs;
      outside = t.outside;
      times = t.times;
      begins = t.begins;
      place = subst (λ n. NextIs (rows_of (before ++ x ∷ ms)) n) long (subst (λ xs. NextIs xs (((length bytes + length once.bytes) + own_size x.row) + sum_by own_size (rows_of ms))) whole next);
      far = t.far;
      stride_is = t.stride_is ∙ ap (λ xs. size_of t.table.row (rows_of xs)) joined;
    }

-- A reference on a screen of a front without faults names one item of the layout, which has no OCCURS in or above it.
use Rattle.std.proofs.Common.{◌≡◌, ◌∙◌, refl, sym, ap, subst, arith, ℕ, ◌+◌, ◌≤◌, ◌==◌, nat_lt, Bool, true, false, ◌&&◌, ◌||◌, List, [], ◌∷◌, ◌++◌, length, map, reverse, Option, Some, None, is_some}
use Rattle.std.specs.Prelude.{if◌then◌else◌, option_to_list}
use Rattle.std.specs.List.{list_any, list_all, flat_map}
use Rattle.std.proofs.lemmas.Bool.Decides.{nat_tests}
use Rattle.std.proofs.lemmas.List.{reverse-append}
use Rattle.std.proofs.lemmas.List.Folds.{list_all-append}
use Rattle.cob_base.specs.declared.divisions.Front.{Front}
use Rattle.cob_base.specs.declared.data_entries.DataEntry.{DataEntry}
use Rattle.cob_base.specs.declared.data_entries.DataEntry.TheVariants as d
use Rattle.cob_base.specs.declared.screen_entries.ScreenClause.{ScreenClause}
use Rattle.cob_base.specs.declared.screen_entries.ScreenEntry.{ScreenEntry}
use Rattle.cob_base.specs.declared.operands.Operand.{Operand}
use Rattle.cob_base.specs.declared.operands.Operand.TheVariants as o
use Rattle.cob_base.specs.declared.operands.Reference.{Reference}
use Rattle.picture_rule.specs.Picture.{PictureValue, plain}
use Rattle.picture_rule.specs.declared.kind.PictureKind.TheVariants.{Group}
use Rattle.data_layout.specs.declared.row.Row.{Row}
use Rattle.data_layout.specs.declared.row.Described.{Described}
use Rattle.data_layout.specs.declared.layout.Item.{Item}
use Rattle.data_layout.specs.declared.layout.Layout.{Layout}
use Rattle.data_layout.specs.Rows.{Section, AreRows, AreAllRows}
use Rattle.data_layout.specs.Layout.{AreItems, IsItemPicture, occurs_or_zero}
use Rattle.data_names.specs.Items.{DataItem}
use Rattle.data_names.specs.Parts.{files, crt_status, screen_entries}
use Rattle.data_names.specs.Spots.{Spot, groups_of, is_table, is_repeated}
use Rattle.data_names.specs.References.{found, only_one, matching, count_of_matches}
use Rattle.entry_clauses.specs.Clauses.{sender, receiver, both_ways}
use Rattle.name_rules.specs.Mentions.{Mention, mention, mentions, references, subscript_items, references_of_screen, references_of_file, reference_of_crt, reference_in, is_subscripted}
use Rattle.name_rules.specs.Subscripts.{is_miscounted}
use Rattle.data_layout.specs.Occurrences.{around_item}
use Rattle.screen_names.specs.Names.{is_single}
use Rattle.screen_rows.specs.Rows.{single_or_none}
use Rattle.cobol_checker.proofs.LayoutNames.{Numbered, Seen, seen, known, Named, named_once}
use Rattle.cobol_checker.proofs.ScreenContents.{Aims, OptionAims, OperandAims}
use Rattle.cobol_checker.proofs.LaidOut.{neither}
use Rattle.cobol_checker.proofs.ScreenLevels.{both}

-- ---- each item has its number

abbrev RowsNumbered : ℕ → List Row → Type 0
RowsNumbered n [] = Unit {0}
RowsNumbered n (row ∷ rows) = (row.number ≡ n) × RowsNumbered (n + 1) rows

numbered-append : (n : ℕ) (first more : List Row) → RowsNumbered n first → RowsNumbered (n + length first) more → RowsNumbered n (first ++ more)
numbered-append n [] more h k = let same : n + 0 ≡ n = omega arith in subst (λ (m : ℕ). RowsNumbered m more) same k
numbered-append n (row ∷ first) more h k =
    let same : n + length (row ∷ first) ≡ (n + 1) + length first = omega arith in
    (h.0, numbered-append (n + 1) first more h.1 (subst (λ (m : ℕ). RowsNumbered m more) same k))

rows_numbered : (in_file starts : Bool) (n : ℕ) (entries : List DataEntry) (rows : List Row) (texts : List Described) → AreRows in_file starts n entries rows texts → RowsNumbered n rows
rows_numbered in_file starts n [] rows texts h = subst (RowsNumbered n) (sym h.0) tt
rows_numbered in_file starts n (d.Condition entry ∷ rest) rows texts h = rows_numbered in_file starts n rest rows texts h
rows_numbered in_file starts n (d.Item entry ∷ rest) rows texts h =
    let is = h.4 in subst (RowsNumbered n) (sym h.6) (is.number, rows_numbered in_file false (n + 1) rest h.2 h.3 h.5)

all_numbered : (n : ℕ) (all : List Section) (rows : List Row) (texts : List Described) → AreAllRows n all rows texts → RowsNumbered n rows
all_numbered n [] rows texts h = subst (RowsNumbered n) (sym h.0) tt
all_numbered n (section ∷ others) rows texts h =
    subst (RowsNumbered n) (sym h.6) (numbered-append n h.0 h.2 (rows_numbered section.in_file true n section.entries h.0 h.1 h.4) (all_numbered (n + length h.0) others h.2 h.3 h.5))

items_numbered : (n : ℕ) (items : List DataItem) → RowsNumbered n (map (λ (item : DataItem). item.row) items) → Numbered n items
items_numbered n [] h = tt
items_numbered n (item ∷ items) h = (h.0, items_numbered (n + 1) items h.1)

pub numbered : (all : List Section) (items : List DataItem) (texts : List Described) → AreAllRows 0 all (map (λ (item : DataItem). item.row) items) texts → Numbered 0 items
numbered all items texts h = items_numbered 0 items (all_numbered 0 all (map (λ (item : DataItem). item.row) items) texts h)

-- ---- no OCCURS in or above the item

all_seen : (laid : List Item) → list_all (λ (item : Item). item.occurs == 0) laid ≡ list_all (λ (one : Seen). one.single) (map seen laid)
unfolding seen
all_seen [] = refl
all_seen (item ∷ laid) = ap (λ b. (item.occurs == 0) && b) (all_seen laid)

no_times : (occurs : Option ℕ) → is_some occurs ≡ false → (occurs_or_zero occurs == 0) ≡ true
no_times None h = refl
no_times (Some number) h = cc h

all_single : (groups : List DataItem) → list_any (λ (group : DataItem). is_some group.row.occurs) groups ≡ false → list_all (λ (one : Seen). one.single) (map known groups) ≡ true
unfolding known
all_single [] h = refl
all_single (group ∷ groups) h = let parts = neither (is_some group.row.occurs) _ h in rw (no_times group.row.occurs parts.0, all_single groups parts.1) refl

all_reverse : {A : Type 0} (test : A → Bool) (xs : List A) → list_all test xs ≡ true → list_all test (reverse xs) ≡ true
all_reverse test [] h = refl
all_reverse test (x ∷ xs) h =
    let parts = both (test x) (list_all test xs) h in
    ap (list_all test) (reverse-append (x ∷ []) xs) ∙ list_all-append test (reverse xs) (x ∷ []) ∙ rw (all_reverse test xs parts.1, parts.0) refl

single_by : (spot : Spot DataItem) → is_table spot ≡ false → list_all (λ (one : Seen). one.single) (known spot.item ∷ reverse (map known (groups_of spot))) ≡ true
unfolding known
single_by spot h =
    let parts = neither (is_repeated spot) (is_some spot.item.row.occurs) h in
    rw (no_times spot.item.row.occurs parts.1) (all_reverse (λ (one : Seen). one.single) (map known (groups_of spot)) (all_single (groups_of spot) parts.0))

single_is : (items : List DataItem) (layout : List Item) (reference : Reference) (spot : Spot DataItem) (named : Named items layout reference spot) → is_table spot ≡ false → is_single layout named.number ≡ true
single_is items layout reference spot named h =
    all_seen (around_item layout named.number) ∙ ap (list_all (λ (one : Seen). one.single)) named.groups ∙ single_by spot h

-- ---- one reference

no_more : (n : ℕ) → nat_lt 1 n ≡ false → n ≤ 1
no_more n h = grind (arith, nat_tests)

one_found : (xs : List (Spot DataItem)) → (length xs == 0) ≡ false → nat_lt 1 (length xs) ≡ false → (spot : Spot DataItem) × (only_one xs ≡ Some spot)
one_found [] e f = cc e
one_found (x ∷ []) e f = (x, refl)
one_found (x ∷ (y ∷ xs)) e f = let few = no_more (length (x ∷ (y ∷ xs))) f in absurd (omega (arith, few))

picture_at : (group : Bool) (size : ℕ) (given : Option PictureValue) (picture : PictureValue) → IsItemPicture group size given picture → (if group then Some (plain Group size) else given) ≡ Some picture
picture_at true size given picture h = ap Some (sym h)
picture_at false size given picture h = h

aimed : (subscripted single : Bool) (place : ℕ) → subscripted ≡ false → single ≡ true → (if subscripted then None else (if single then Some place else None)) ≡ Some place
aimed subscripted single place e f = rw (e, f) refl

-- what the rules say of a reference
pub record Kept (items : List DataItem) (reference : Reference) : Type 0 where
  pub some_match : (count_of_matches items reference == 0) ≡ false
  pub few_match : nat_lt 1 (count_of_matches items reference) ≡ false
  pub counted : is_miscounted (is_some reference.subscript) (found items reference) ≡ false
  pub plain : is_subscripted reference ≡ false

aims : (layout : Layout) (items : List DataItem) (reference : Reference) → Numbered 0 items
    → AreItems [] (map (λ (item : DataItem). item.row) items) (map (λ (item : DataItem). item.text) items) layout.items → Kept items reference → Aims layout items reference
aims layout items reference n h k =
    let one = one_found (matching items reference.name reference.qualifiers) k.some_match k.few_match in
    let spot = one.0 in
    let found_is : found items reference ≡ Some spot = one.1 in
    let counted : is_miscounted false (Some spot) ≡ false = ap (is_miscounted false) (sym found_is) ∙ ap (λ b. is_miscounted b (found items reference)) (sym k.plain) ∙ k.counted in
    let named = named_once items layout.items reference spot n h found_is in
    let single = single_is items layout.items reference spot named counted in
    let is = named.laid.is in
    record {
      place = named.number;
      target_is = ap (λ place. if is_some reference.subscript then None else single_or_none layout.items place) named.only ∙ aimed (is_some reference.subscript) (is_single layout.items named.number) named.number k.plain single;
      item = named.laid.item;
      at = named.laid.at;
      picture_is = rw found_is (picture_at spot.item.row.group _ spot.item.text.picture named.laid.item.picture is.picture);
    }

-- ---- the references of an entry

abbrev AllAim : Layout → List DataItem → List Reference → Type 0
AllAim layout items [] = Unit {0}
AllAim layout items (reference ∷ others) = Aims layout items reference × AllAim layout items others

aim_front : (layout : Layout) (items : List DataItem) (xs ys : List Reference) → AllAim layout items (xs ++ ys) → AllAim layout items xs
aim_front layout items [] ys h = tt
aim_front layout items (x ∷ xs) ys h = (h.0, aim_front layout items xs ys h.1)

aim_back : (layout : Layout) (items : List DataItem) (xs ys : List Reference) → AllAim layout items (xs ++ ys) → AllAim layout items ys
aim_back layout items [] ys h = h
aim_back layout items (x ∷ xs) ys h = aim_back layout items xs ys h.1

-- what no reference of a list has
pub record NoneOf (items : List DataItem) (all : List Reference) : Type 0 where
  pub unknown : list_any (λ (one : Reference). count_of_matches items one == 0) all ≡ false
  pub ambiguous : list_any (λ (one : Reference). nat_lt 1 (count_of_matches items one)) all ≡ false
  pub miscounted : list_any (λ (one : Reference). is_miscounted (is_some one.subscript) (found items one)) all ≡ false

all_aim : (layout : Layout) (items : List DataItem) (all : List Reference) → Numbered 0 items
    → AreItems [] (map (λ (item : DataItem). item.row) items) (map (λ (item : DataItem). item.text) items) layout.items → NoneOf items all → list_any is_subscripted all ≡ false → AllAim layout items all
all_aim layout items [] n h k s = tt
all_aim layout items (reference ∷ all) n h k s =
    let u = neither (count_of_matches items reference == 0) _ k.unknown in
    let a = neither (nat_lt 1 (count_of_matches items reference)) _ k.ambiguous in
    let m = neither (is_miscounted (is_some reference.subscript) (found items reference)) _ k.miscounted in
    let p = neither (is_subscripted reference) _ s in (
      aims layout items reference n h (record { some_match = u.0; few_match = a.0; counted = m.0; plain = p.0 }),
      all_aim layout items all n h (record { unknown = u.1; ambiguous = a.1; miscounted = m.1 }) p.1,
    )

operand_aims : (layout : Layout) (items : List DataItem) (from : Option Operand) → AllAim layout items (reference_in from) → OperandAims layout items from
operand_aims layout items None h = tt
operand_aims layout items (Some (o.Reference reference)) h = h.0
operand_aims layout items (Some (o.Constant constant)) h = tt

option_aims : (layout : Layout) (items : List DataItem) (to : Option Reference) → AllAim layout items (option_to_list to) → OptionAims layout items to
option_aims layout items None h = tt
option_aims layout items (Some reference) h = h.0

-- what FROM, TO and USING of an entry name
pub record EntryAims (layout : Layout) (items : List DataItem) (clauses : List ScreenClause) : Type 0 where
  pub from : OperandAims layout items (sender clauses)
  pub to : OptionAims layout items (receiver clauses)
  pub using : OptionAims layout items (both_ways clauses)

pub entry_aims : (layout : Layout) (items : List DataItem) (entry : ScreenEntry) → Numbered 0 items
    → AreItems [] (map (λ (item : DataItem). item.row) items) (map (λ (item : DataItem). item.text) items) layout.items → NoneOf items (references_of_screen entry)
    → list_any is_subscripted (references_of_screen entry) ≡ false → EntryAims layout items entry.clauses
entry_aims layout items entry n h k s =
    let from = reference_in (sender entry.clauses) in
    let to = option_to_list (receiver entry.clauses) in
    let using = option_to_list (both_ways entry.clauses) in
    let all = all_aim layout items (references_of_screen entry) n h k s in
    let first = aim_front layout items (from ++ to) using all in
    record {
      from = operand_aims layout items (sender entry.clauses) (aim_front layout items from to first);
      to = option_aims layout items (receiver entry.clauses) (aim_back layout items from to first);
      using = option_aims layout items (both_ways entry.clauses) (aim_back layout items (from ++ to) using all);
    }

-- ---- the references of all entries

any_front : {A : Type 0} (test : A → Bool) (xs ys : List A) → list_any test (xs ++ ys) ≡ false → list_any test xs ≡ false
any_front test [] ys h = refl
any_front test (x ∷ xs) ys h = let parts = neither (test x) _ h in rw (parts.0, any_front test xs ys parts.1) refl

any_back : {A : Type 0} (test : A → Bool) (xs ys : List A) → list_any test (xs ++ ys) ≡ false → list_any test ys ≡ false
any_back test [] ys h = h
any_back test (x ∷ xs) ys h = any_back test xs ys (neither (test x) _ h).1

any_mention : (test : Reference → Bool) (entry : ScreenEntry) (all : List Reference) → list_any (λ (one : Mention). test one.reference) (map (mention entry.line) all) ≡ list_any test all
any_mention test entry [] = refl
any_mention test entry (reference ∷ all) = ap (λ b. test reference || b) (any_mention test entry all)

abbrev mentioned : ScreenEntry → List Mention
mentioned entry = map (mention entry.line) (references_of_screen entry)

-- no reference of an entry passes
pub in_entry : (test : Reference → Bool) (entry : ScreenEntry) (rest : List ScreenEntry) → list_any (λ (one : Mention). test one.reference) (flat_map mentioned (entry ∷ rest)) ≡ false
    → (list_any test (references_of_screen entry) ≡ false) × (list_any (λ (one : Mention). test one.reference) (flat_map mentioned rest) ≡ false)
in_entry test entry rest h =
    let q : Mention → Bool = λ (one : Mention). test one.reference in
    (sym (any_mention test entry (references_of_screen entry)) ∙ any_front q (mentioned entry) (flat_map mentioned rest) h, any_back q (mentioned entry) (flat_map mentioned rest) h)

-- no reference of the screens passes
of_screens : (front : Front) (test : Reference → Bool) → list_any (λ (one : Mention). test one.reference) (mentions front) ≡ false
    → list_any (λ (one : Mention). test one.reference) (flat_map mentioned (screen_entries front)) ≡ false
of_screens front test h =
    let q : Mention → Bool = λ (one : Mention). test one.reference in
    let all = any_front q (references front) (subscript_items front) h in
    any_back q (flat_map (λ file. map (mention file.line) (references_of_file file)) (files front) ++ map (λ crt. mention crt.line (reference_of_crt crt)) (crt_status front)) (flat_map mentioned (screen_entries front)) all

-- what no mention of these entries has
pub record NoneIn (items : List DataItem) (entries : List ScreenEntry) : Type 0 where
  pub unknown : list_any (λ (one : Mention). count_of_matches items one.reference == 0) (flat_map mentioned entries) ≡ false
  pub ambiguous : list_any (λ (one : Mention). nat_lt 1 (count_of_matches items one.reference)) (flat_map mentioned entries) ≡ false
  pub miscounted : list_any (λ (one : Mention). is_miscounted (is_some one.reference.subscript) (found items one.reference)) (flat_map mentioned entries) ≡ false

pub none_of : (items : List DataItem) (entry : ScreenEntry) (rest : List ScreenEntry) → NoneIn items (entry ∷ rest) → NoneOf items (references_of_screen entry) × NoneIn items rest
none_of items entry rest h =
    let u = in_entry (λ (one : Reference). count_of_matches items one == 0) entry rest h.unknown in
    let a = in_entry (λ (one : Reference). nat_lt 1 (count_of_matches items one)) entry rest h.ambiguous in
    let m = in_entry (λ (one : Reference). is_miscounted (is_some one.subscript) (found items one)) entry rest h.miscounted in
    (record { unknown = u.0; ambiguous = a.0; miscounted = m.0 }, record { unknown = u.1; ambiguous = a.1; miscounted = m.1 })

pub none_in : (front : Front) (items : List DataItem) → list_any (λ (one : Mention). count_of_matches items one.reference == 0) (mentions front) ≡ false
    → list_any (λ (one : Mention). nat_lt 1 (count_of_matches items one.reference)) (mentions front) ≡ false
    → list_any (λ (one : Mention). is_miscounted (is_some one.reference.subscript) (found items one.reference)) (mentions front) ≡ false → NoneIn items (screen_entries front)
none_in front items u a m = record {
  unknown = of_screens front (λ (one : Reference). count_of_matches items one == 0) u;
  ambiguous = of_screens front (λ (one : Reference). nat_lt 1 (count_of_matches items one)) a;
  miscounted = of_screens front (λ (one : Reference). is_miscounted (is_some one.subscript) (found items one)) m;
}

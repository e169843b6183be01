-- In a program that keeps every rule each VALUE fits its item.
use Rattle.std.proofs.Common.{◌≡◌, ◌∙◌, refl, sym, ap, subst, Bool, true, false, not, ◌||◌, ◌&&◌, List, [], ◌∷◌, ◌++◌, map, Option, Some, None}
use Rattle.std.specs.Prelude.{if◌then◌else◌}
use Rattle.std.specs.List.{list_any, list_all, AllZip}
use Rattle.std.specs.Ordering.{int_eq}
use Rattle.std.proofs.lemmas.List.{map-append}
use Rattle.cob_base.specs.declared.divisions.Front.{Front}
use Rattle.cob_base.specs.declared.operands.Constant.{Constant}
use Rattle.cob_base.specs.declared.operands.Constant.TheVariants as c
use Rattle.picture_rule.specs.Picture.{PictureValue, plain}
use Rattle.picture_rule.specs.declared.kind.PictureKind.TheVariants.{Group}
use Rattle.cob_value.specs.Figures.{is_number}
use Rattle.data_layout.specs.declared.row.Row.{Row}
use Rattle.data_layout.specs.declared.layout.Item.{Item}
use Rattle.data_layout.specs.declared.layout.Layout.{Layout}
use Rattle.data_layout.specs.Rows.{sections}
use Rattle.data_layout.specs.Storage.{goes_on, members}
use Rattle.data_layout.specs.Faults.{has_size, is_unreadable}
use Rattle.data_layout.specs.Layout.{AreItems, IsItemPicture, size_of}
use Rattle.data_layout.specs.Outcome.{IsLayoutOf}
use Rattle.data_names.specs.Clauses.{value_clause}
use Rattle.data_names.specs.Items.{DataItem}
use Rattle.data_names.specs.Spots.{Spot, spots_after, spot_of, is_sized, is_in_value, has_value, picture_of_item}
use Rattle.front_rules.specs.Kinds.{fits, read_back, is_unfit, has_bad_value, is_item_of_wrong_kind}
use Rattle.front_rules.specs.Levels.{has_bad_level}
use Rattle.entry_clauses.specs.Clauses.{has_leading_sign}
use Rattle.opening_storage.specs.Opening.{can_hold, CanHold, CanOpen}
use Rattle.opening_storage.proofs.WholeStorage.{same_rows}
use Rattle.cobol_checker.specs.Outcome.{CheckedValue, IsInProfile}
use Rattle.cobol_checker.specs.Judged.{IsFaultless}
use Rattle.cobol_checker.proofs.KeepsRules.{front_of}
use Rattle.cobol_checker.proofs.NoFaults.{faultless_of, none_fails}
use Rattle.cobol_checker.proofs.LaidOut.{neither}
use Rattle.cobol_checker.proofs.RecordBytes.{while_all}

abbrev rows_of : List DataItem → List Row
rows_of items = map (λ (item : DataItem). item.row) items

-- ---- a constant that fits can be held

first_of : (a b : Bool) → (a && b) ≡ true → a ≡ true
first_of true b h = refl
first_of false b h = cc

not_not : (b : Bool) → not b ≡ false → b ≡ true
not_not true h = refl
not_not false h = cc

fit_held : (p : PictureValue) (constant : Constant) → fits true p constant ≡ true → can_hold p (Some constant) ≡ true
fit_held p (c.Text text) h = refl
fit_held p (c.Number number) h = first_of (is_number p.kind) (int_eq (read_back p number.value) number.value) h
fit_held p (c.Figurative figure) h = h

value_held : (p : PictureValue) (value : Option Constant) → is_unfit true (Some p) value ≡ false → can_hold p value ≡ true
value_held p None h = refl
value_held p (Some constant) h = fit_held p constant (not_not (fits true p constant) h)

-- ---- sizes that are known

sized_row : (group unreadable : Bool) → unreadable ≡ false → (group || not unreadable) ≡ true
sized_row true unreadable h = refl
sized_row false unreadable h = ap not h

all_sized : (items : List DataItem) → list_any (λ (item : DataItem). is_unreadable item.row.spelled) items ≡ false → list_all has_size (rows_of items) ≡ true
all_sized [] h = refl
all_sized (x ∷ items) h =
    let parts = neither (is_unreadable x.row.spelled) (list_any (λ (item : DataItem). is_unreadable item.row.spelled) items) h in
    both_are (has_size x.row) (list_all has_size (rows_of items)) (sized_row x.row.group (is_unreadable x.row.spelled) parts.0) (all_sized items parts.1)
  where
    both_are : (a b : Bool) → a ≡ true → b ≡ true → (a && b) ≡ true
    both_are a b h k = rw (h, k) refl

item_sized : (before : List DataItem) (x : DataItem) (rest : List DataItem) → list_all has_size (x.row ∷ rows_of rest) ≡ true → is_sized (spot_of before x rest) ≡ true
item_sized before x rest h =
    let one = first_of (has_size x.row) (list_all has_size (rows_of rest)) h in
    let others : list_all has_size (rows_of rest) ≡ true = second_of (has_size x.row) (list_all has_size (rows_of rest)) h in
    let inside : list_all has_size (members x.row (rows_of rest)) ≡ true = while_all (goes_on x.row) has_size (rows_of rest) others in rw (one, inside) refl
  where
    second_of : (a b : Bool) → (a && b) ≡ true → b ≡ true
    second_of true b h = h
    second_of false b h = cc

-- ---- the picture of an item is that of its place

picture_by : (b : Bool) (before : List DataItem) (x : DataItem) (rest : List DataItem) (place : Item) → x.row.group ≡ b → IsItemPicture b (size_of x.row (rows_of rest)) x.text.picture place.picture
    → picture_of_item (spot_of before x rest) ≡ Some place.picture
picture_by true before x rest place e h = ap (λ b. if b then Some (plain Group (size_of x.row (rows_of rest))) else x.text.picture) e ∙ ap Some (sym h)
picture_by false before x rest place e h = ap (λ b. if b then Some (plain Group (size_of x.row (rows_of rest))) else x.text.picture) e ∙ h

picture_is : (before : List DataItem) (x : DataItem) (rest : List DataItem) (place : Item) → IsItemPicture x.row.group (size_of x.row (rows_of rest)) x.text.picture place.picture
    → picture_of_item (spot_of before x rest) ≡ Some place.picture
picture_is before x rest place h = picture_by x.row.group before x rest place refl h

-- ---- each item

fitting : (spot : Spot DataItem) → is_item_of_wrong_kind spot ≡ false → is_sized spot ≡ true → is_unfit true (picture_of_item spot) (value_clause spot.item.source.entry.clauses) ≡ false
fitting spot h s =
    let k3 = neither (has_bad_level spot || has_bad_value spot || spot.item.row.twice) (has_leading_sign spot.item.source.entry.clauses) h in
    let k2 = neither (has_bad_level spot || has_bad_value spot) spot.item.row.twice k3.0 in
    let k1 = neither (has_bad_level spot) (has_bad_value spot) k2.0 in
    let v = neither (has_value spot.item && (spot.item.row.in_file || is_in_value spot)) (is_unfit (is_sized spot) (picture_of_item spot) (value_clause spot.item.source.entry.clauses)) k1.1 in
    subst (λ sized. is_unfit sized (picture_of_item spot) (value_clause spot.item.source.entry.clauses) ≡ false) s v.1

held_from : (before rest : List DataItem) (places : List Item) → AreItems (rows_of before) (rows_of rest) (map (λ (item : DataItem). item.text) rest) places
    → list_any is_item_of_wrong_kind (spots_after before rest) ≡ false → list_any (λ (item : DataItem). is_unreadable item.row.spelled) rest ≡ false → AllZip CanHold rest places
held_from before [] [] a w u = tt
held_from before [] (p ∷ places) a w u = absurd (cc a.1)
held_from before (x ∷ rest) [] a w u = absurd a
held_from before (x ∷ rest) (p ∷ places) a w u =
    let wrong = neither (is_item_of_wrong_kind (spot_of before x rest)) (list_any is_item_of_wrong_kind (spots_after (before ++ x ∷ []) rest)) w in
    let unreadable = neither (is_unreadable x.row.spelled) (list_any (λ (item : DataItem). is_unreadable item.row.spelled) rest) u in
    let unfit = fitting (spot_of before x rest) wrong.0 (item_sized before x rest (all_sized (x ∷ rest) u)) in
    let picture = picture_is before x rest p a.0.picture in
    let here : can_hold p.picture (value_clause x.source.entry.clauses) ≡ true =
    value_held p.picture (value_clause x.source.entry.clauses) (sym (ap (λ o. is_unfit true o (value_clause x.source.entry.clauses)) picture) ∙ unfit) in
    let more : rows_of before ++ x.row ∷ [] ≡ rows_of (before ++ x ∷ []) = sym (map-append (λ (item : DataItem). item.row) before (x ∷ [])) in
    (here, held_from (before ++ x ∷ []) rest places (subst (λ rows. AreItems rows (rows_of rest) (map (λ (item : DataItem). item.text) rest) places) more a.1) wrong.1 unreadable.1)

-- a program that keeps every rule can open
pub can_open : (front : Front) (layout : Layout) → IsFaultless front → IsLayoutOf (sections front) layout → CanOpen front layout
can_open front layout f l =
    let none = none_fails front f.items f.screens (faultless_of front f.items f.screens f.faultless) in
    let same = same_rows front layout f.items l f.items_are in
    record { items = f.items; items_are = f.items_are; held = held_from [] f.items layout.items same.laid.items none.wrong none.unreadable }

pub opens : (checked : CheckedValue) → IsInProfile checked → CanOpen checked.program.front checked.layout
opens checked h =
    can_open checked.program.front checked.layout
    (front_of checked.program h.keeps) h.layout_is

-- The bytes that the code builds are the opening of the items, and the only one.
use Rattle.std.proofs.Common.{◌≡◌, ℕ, ◌+◌, ◌-◌, ◌*◌, ◌<◌, ◌≤◌, min, refl, sym, ◌∙◌, ap, subst, arith, Bool, true, false, List, [], ◌∷◌, ◌++◌, map, length, take, drop, append_assoc, Option, Some, None, All, length-drop, length-append}
use Rattle.std.proofs.lemmas.Bool.{eqb-false}
use Rattle.std.specs.Prelude.{nat_eq, slice_get, if◌then◌else◌}
use Rattle.std.specs.List.{AllZip}
use Rattle.std.proofs.Math.Seq.{take-length}
use Rattle.std.proofs.lemmas.List.{length-take, map-append}
use Rattle.std.proofs.lemmas.List.Elements.{All-head, All-tail}
use Rattle.cob_base.specs.declared.divisions.Front.{Front}
use Rattle.data_layout.specs.declared.row.Row.{Row}
use Rattle.data_layout.specs.declared.row.Described.{Described}
use Rattle.data_layout.specs.declared.fault.LayoutFault.{LayoutFault}
use Rattle.data_layout.specs.declared.fault.LayoutFault.TheVariants as f
use Rattle.data_layout.specs.declared.layout.Item.{Item}
use Rattle.data_layout.specs.declared.layout.Layout.{Layout}
use Rattle.data_layout.specs.Rows.{sections, strays}
use Rattle.data_layout.specs.Faults.{fault_where, row_faults, faults_after, layout_faults, is_bad_level, passes_storage, passes_record}
use Rattle.data_layout.specs.Storage.{number_of_times}
use Rattle.data_layout.specs.Layout.{AreItems, IsInside, IsLayout}
use Rattle.data_layout.specs.Outcome.{IsLayoutOf}
use Rattle.data_layout.specs.Placed.{NumberedFrom}
use Rattle.data_layout.proofs.Numbers.{numbered_all}
use Rattle.data_names.specs.Items.{DataItem, AreDataItems}
use Rattle.data_names.specs.Spots.{Spot, spots, spots_after}
use Rattle.data_names.proofs.SameItems.{all_rows_once, items_once}
use Rattle.opening_storage.specs.Opening.{IsOpening, IsOpeningOf, Opens, table_of, times_of, stride_of}
use Rattle.opening_storage.specs.Filling.{IsSized, before_all, own_bytes}
use Rattle.opening_storage.proofs.Members.{Facts, rows_of, Clear, Outside, Leaves}
use Rattle.opening_storage.proofs.Tables.{Standing}
use Rattle.opening_storage.proofs.Entering.{Outcome, end_of, comes_out}
use Rattle.opening_storage.proofs.EntryGroups.{Grouped, LeavesRow, grouped_all}

-- ---- no fault

empty_parts : {A : Type 0} (a b : List A) → a ++ b ≡ [] → (a ≡ []) × (b ≡ [])
empty_parts [] b h = (refl, h)
empty_parts (x ∷ a) b h = cc

not_there : (b : Bool) (fault : LayoutFault) → fault_where b fault ≡ [] → b ≡ false
not_there true fault h = cc
not_there false fault h = refl

level_of : (before : List Row) (row : Row) (rest : List Row) → row_faults before row rest ≡ [] → is_bad_level before row ≡ false
level_of before row rest h =
    let one = empty_parts (fault_where (passes_storage before row) (f.StorageLimit row.line)) _ h in
    let two = empty_parts (fault_where (passes_record row rest) (f.RecordLimit row.line)) _ one.1 in
    let three = empty_parts (fault_where (is_bad_level before row) (f.BadLevel row.line)) _ two.1 in
    not_there (is_bad_level before row) (f.BadLevel row.line) three.0

-- ---- the facts of all items

at_place : (front : List Item) (p : Item) (ps : List Item) → slice_get (front ++ p ∷ ps) (length front) ≡ Some p
at_place [] p ps = refl
at_place (x ∷ front) p ps = at_place front p ps

leaves_items : (row : Row) (rest : List DataItem) → LeavesRow row (rows_of rest) → Leaves row rest
leaves_items row [] h = tt
leaves_items row (y ∷ rest) h = h

rows_more : (before : List DataItem) (x : DataItem) → rows_of before ++ x.row ∷ [] ≡ rows_of (before ++ x ∷ [])
rows_more before x = sym (map-append (λ (item : DataItem). item.row) before (x ∷ []))

facts_from : (places : List Item) (total : ℕ) (front : List Item) (before rest : List DataItem) (texts : List Described) (ps : List Item) → places ≡ front ++ ps
    → AreItems (rows_of before) (rows_of rest) texts ps → faults_after (rows_of before) (rows_of rest) ≡ [] → NumberedFrom (length front) (rows_of rest) → Grouped (rows_of rest)
    → All (IsInside total) ps → AllZip IsSized (spots_after before rest) ps → Facts places total before rest ps
facts_from places total front before [] texts [] e items faults numbers groups inside sized = tt
facts_from places total front before [] texts (p ∷ ps) e items faults numbers groups inside sized = absurd (cc items.1)
facts_from places total front before (x ∷ rest) [] ps e items faults numbers groups inside sized = absurd items
facts_from places total front before (x ∷ rest) (text ∷ texts) [] e items faults numbers groups inside sized = absurd items
facts_from places total front before (x ∷ rest) (text ∷ texts) (p ∷ ps) e items faults numbers groups inside sized =
    let parts = empty_parts (row_faults (rows_of before) x.row (rows_of rest)) (faults_after (rows_of before ++ x.row ∷ []) (rows_of rest)) faults in
    let here : IsInside total p = All-head (IsInside total) p ps inside in
    let more : places ≡ (front ++ p ∷ []) ++ ps = e ∙ sym (append_assoc front (p ∷ []) ps) in
    let next : length front + 1 ≡ length (front ++ p ∷ []) = sym (length-append front (p ∷ [])) in (
      record {
        offset = items.0.offset;
        size = items.0.size;
        level = level_of (rows_of before) x.row (rows_of rest) parts.0;
        numbered = ap (λ n. slice_get places n) numbers.0 ∙ ap (λ xs. slice_get xs (length front)) e ∙ at_place front p ps;
        alone = λ g. leaves_items x.row rest (groups.0 g);
        within = here.within;
        given = λ g. sized.0 g ∙ here.sized;
      },
      facts_from places total (front ++ p ∷ []) (before ++ x ∷ []) rest texts ps more
          (subst (λ rows. AreItems rows (rows_of rest) texts ps) (rows_more before x) items.1)
          (subst (λ rows. faults_after rows (rows_of rest) ≡ []) (rows_more before x) parts.1)
          (subst (λ n. NumberedFrom n (rows_of rest)) next numbers.1) groups.1 (All-tail (IsInside total) p ps inside) sized.1,
    )

-- ---- the whole

starts_clear : (items : List DataItem) → Clear [] items
starts_clear [] = tt
starts_clear (x ∷ items) = refl

starts_outside : (items : List DataItem) → Outside [] items
starts_outside [] = tt
starts_outside (x ∷ items) = refl

starts : (places : List Item) (items : List DataItem) → Standing places 0 [] items before_all
starts places items = record { clear = starts_clear items; cursor = (refl, starts_outside items) }

-- the rows and texts of a layout are those of the items
pub record SameRows (front : Front) (layout : Layout) (items : List DataItem) : Type 0 where
  pub laid : IsLayout (rows_of items) (map (λ (item : DataItem). item.text) items) layout
  pub faultless : faults_after [] (rows_of items) ≡ []

pub same_rows : (front : Front) (layout : Layout) (items : List DataItem) → IsLayoutOf (sections front) layout → AreDataItems front items → SameRows front layout items
same_rows front layout items l a =
    let same = all_rows_once 0 (sections front) l.rows (rows_of items) l.texts (map (λ (item : DataItem). item.text) items) l.read a.rows in
    record {
      laid = subst (λ texts. IsLayout (rows_of items) texts layout) same.1 (subst (λ rows. IsLayout rows l.texts layout) same.0 l.laid_out);
      faultless = (empty_parts (map f.BadLevel (strays (sections front))) (faults_after [] (rows_of items))
          (subst (λ rows. layout_faults (strays (sections front)) rows ≡ []) same.0 l.faultless)).1;
    }

pub outcome : (front : Front) (layout : Layout) (items : List DataItem) → IsLayoutOf (sections front) layout → AreDataItems front items → AllZip IsSized (spots items) layout.items
    → Outcome layout 0 before_all [] items layout.items (end_of before_all [] items layout.items)
outcome front layout items l a sized =
    let same = same_rows front layout items l a in
    let facts : Facts layout.items layout.total [] items layout.items =
    facts_from layout.items layout.total [] [] items (map (λ (item : DataItem). item.text) items) layout.items refl same.laid.items same.faultless
    (numbered_all 0 (sections front) (rows_of items) _ a.rows) (grouped_all 0 (sections front) (rows_of items) _ a.rows) same.laid.inside sized in
    comes_out layout layout.total 0 before_all [] items [] items layout.items facts refl tt (starts layout.items items)

-- what the code builds is the opening
pub is_opening : (front : Front) (layout : Layout) (items : List DataItem) → IsLayoutOf (sections front) layout → AreDataItems front items → AllZip IsSized (spots items) layout.items
    → IsOpening items layout (end_of before_all [] items layout.items)
is_opening front layout items l a sized =
    let out = outcome front layout items l a sized in
    let same = same_rows front layout items l a in
    let end : List ℕ = end_of before_all [] items layout.items in
    record { length_is = out.size ∙ sym same.laid.total; each = (out.back end (take-length end)).1 }

-- ---- the only one

some_times : (o : Option ℕ) → 1 ≤ number_of_times o
some_times None = omega arith
some_times (Some n) = some_by (nat_eq n 0) n refl
  where
    some_by : (b : Bool) (n : ℕ) → nat_eq n 0 ≡ b → 1 ≤ (if b then 1 else n)
    some_by true n e = omega arith
    some_by false n e = let some = eqb-false n 0 e in grind (arith, some)

some_table : (table : Option DataItem) → 0 < times_of table
some_table None = omega arith
some_table (Some table) = let some = some_times table.row.occurs in omega (arith, some)

-- of so many bytes within a list there are so many
held : (b c : List ℕ) (size at : ℕ) → take size (drop at b) ≡ c → at + size ≤ length b → length c ≡ size
held b c size at h l =
    let long : length c ≡ min size (length (drop at b)) = ap length (sym h) ∙ length-take size (drop at b) in
    let rest : length (drop at b) ≡ length b - at = length-drop at b in omega (arith, long, rest)

sized_by : (layout : Layout) (b : List ℕ) (spot : Spot DataItem) (p : Item) → length b ≡ layout.total → IsInside layout.total p → Opens layout b spot p → IsSized spot p
sized_by layout b spot p l inside h g =
    let first : take p.size (drop (p.offset + 0 * stride_of layout (table_of spot)) b) ≡ own_bytes spot.item p.picture = h g 0 (some_table (table_of spot)) in
    let place : p.offset + 0 * stride_of layout (table_of spot) ≡ p.offset = omega arith in
    let short : p.offset + p.size ≤ length b = subst (λ n. p.offset + p.size ≤ n) (sym l) inside.within in
    held b (own_bytes spot.item p.picture) p.size p.offset (sym (ap (λ n. take p.size (drop n b)) place) ∙ first) short ∙ sym inside.sized

all_sized : (layout : Layout) (b : List ℕ) (all : List (Spot DataItem)) (ps : List Item) → length b ≡ layout.total → All (IsInside layout.total) ps → AllZip (Opens layout b) all ps → AllZip IsSized all ps
all_sized layout b [] [] l inside h = tt
all_sized layout b [] (p ∷ ps) l inside h = absurd h
all_sized layout b (spot ∷ all) [] l inside h = absurd h
all_sized layout b (spot ∷ all) (p ∷ ps) l inside h =
    (sized_by layout b spot p l (All-head (IsInside layout.total) p ps inside) h.0, all_sized layout b all ps l (All-tail (IsInside layout.total) p ps inside) h.1)

pub only_one : (front : Front) (layout : Layout) (items : List DataItem) (bytes : List ℕ) → IsLayoutOf (sections front) layout → AreDataItems front items → IsOpening items layout bytes
    → bytes ≡ end_of before_all [] items layout.items
only_one front layout items bytes l a o =
    let same = same_rows front layout items l a in
    let sized = all_sized layout bytes (spots items) layout.items o.length_is same.laid.inside o.each in
    let out = outcome front layout items l a sized in
    let long : length bytes ≡ length (end_of before_all [] items layout.items) = o.length_is ∙ same.laid.total ∙ sym out.size in
    sym (take-length bytes) ∙ ap (λ n. take n bytes) long ∙ out.forth bytes refl o.each

pub definite : (front : Front) (layout : Layout) (bytes others : List ℕ) → IsLayoutOf (sections front) layout → IsOpeningOf front layout bytes → IsOpeningOf front layout others → bytes ≡ others
definite front layout bytes others l one two =
    let same : one.items ≡ two.items = items_once front one.items two.items one.items_are two.items_are in
    only_one front layout one.items bytes l one.items_are one.opening ∙ ap (λ items. end_of before_all [] items layout.items) same
    ∙ sym (only_one front layout two.items others l two.items_are two.opening)

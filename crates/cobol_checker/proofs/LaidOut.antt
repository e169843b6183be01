-- A front without faults has a layout.
use Rattle.std.proofs.Common.{◌≡◌, ◌∙◌, refl, sym, ap, subst, Bool, true, false, not, ◌||◌, ◌&&◌, ◌==◌, List, [], ◌∷◌, ◌++◌, map, ◌⊎◌, inl, inr, arith}
use Rattle.std.specs.Prelude.{is_some}
use Rattle.std.specs.List.{list_any}
use Rattle.std.proofs.lemmas.List.{map-append}
use Rattle.cob_base.specs.declared.divisions.Front.{Front}
use Rattle.data_layout.specs.declared.row.Row.{Row}
use Rattle.data_layout.specs.declared.row.Spelled.{Spelled}
use Rattle.data_layout.specs.declared.row.Spelled.TheVariants as s
use Rattle.data_layout.specs.declared.fault.LayoutFault.{LayoutFault}
use Rattle.data_layout.specs.Rows.{sections, strays, rank}
use Rattle.data_layout.specs.Storage.{is_repeated}
use Rattle.data_layout.specs.Faults.{level_fits, is_missing, is_unreadable, is_refused, is_in_range, has_bad_clauses, is_bad_level, passes_storage, passes_record, faults_after, layout_faults, IsLeast}
use Rattle.data_layout.specs.Outcome.{IsFaultOf}
use Rattle.data_names.specs.Items.{DataItem}
use Rattle.data_names.specs.Spots.{Spot, spots, spots_after, spot_of, open_after, around}
use Rattle.data_names.specs.Spots as n
use Rattle.data_names.proofs.Cuts.{repeated-is}
use Rattle.data_names.proofs.SameItems.{all_rows_once}
use Rattle.entry_clauses.specs.Clauses.{has_leading_sign, is_outside_of_items}
use Rattle.front_rules.specs.Limits.{is_item_past_limit}
use Rattle.entry_clauses.specs.Spelled.{is_too_wide}
use Rattle.front_rules.specs.Levels.{has_bad_level}
use Rattle.front_rules.specs.Kinds.{is_item_of_wrong_kind, has_bad_value}
use Rattle.front_rules.specs.Outside.{is_item_outside}
use Rattle.cobol_checker.specs.Judged.{IsFaultless}
use Rattle.cobol_checker.proofs.NoFaults.{faultless_of, none_fails}

pub neither : (a b : Bool) → (a || b) ≡ false → (a ≡ false) × (b ≡ false)
neither false false h = (refl, refl)
neither false true h = cc
neither true b h = cc

-- ---- a row without faults

kept_picture : (spelled : Spelled) → is_unreadable spelled ≡ false → is_too_wide spelled ≡ false → is_refused spelled ≡ false
kept_picture s.Missing u w = refl
kept_picture s.Unreadable u w = u
kept_picture s.TooWide u w = w
kept_picture s.Fits u w = refl

pub record GoodRow (before : List Row) (row : Row) (rest : List Row) : Type 0 where
  pub storage : passes_storage before row ≡ false
  pub record_size : passes_record row rest ≡ false
  pub level : is_bad_level before row ≡ false
  pub picture : is_refused row.spelled ≡ false

pub good_row : (spot : Spot DataItem) → is_item_past_limit spot ≡ false → is_item_outside spot ≡ false → is_item_of_wrong_kind spot ≡ false → is_unreadable spot.item.row.spelled ≡ false
    → GoodRow (n.rows_before spot) spot.item.row (n.rows_after spot)
good_row spot l o k u =
    let row = spot.item.row in
    let l3 = neither (is_too_wide row.spelled || not (is_in_range row.occurs) || passes_storage (n.rows_before spot) row) (passes_record row (n.rows_after spot)) l in
    let l2 = neither (is_too_wide row.spelled || not (is_in_range row.occurs)) (passes_storage (n.rows_before spot) row) l3.0 in
    let l1 = neither (is_too_wide row.spelled) (not (is_in_range row.occurs)) l2.0 in
    let nested = neither (list_any is_outside_of_items spot.item.source.entry.clauses) (is_some row.occurs && n.is_repeated spot) o in
    let k3 = neither (has_bad_level spot || has_bad_value spot || row.twice) (has_leading_sign spot.item.source.entry.clauses) k in
    let k2 = neither (has_bad_level spot || has_bad_value spot) row.twice k3.0 in
    let k1 = neither (has_bad_level spot) (has_bad_value spot) k2.0 in
    let fits = not (level_fits (n.rows_before spot) row) in
    let h4 = neither (fits || (row.group && (row.level == 77)) || (is_some row.occurs && (rank row.level == 1)) || (row.group && not (is_missing row.spelled))) (not row.group && is_missing row.spelled) k1.0 in
    let h3 = neither (fits || (row.group && (row.level == 77)) || (is_some row.occurs && (rank row.level == 1))) (row.group && not (is_missing row.spelled)) h4.0 in
    let h2 = neither (fits || (row.group && (row.level == 77))) (is_some row.occurs && (rank row.level == 1)) h3.0 in
    let h1 = neither fits (row.group && (row.level == 77)) h2.0 in
    let repeated : (is_some row.occurs && is_repeated (n.rows_before spot) row) ≡ false = ap (λ b. is_some row.occurs && b) (sym (repeated-is spot)) ∙ nested.1 in
    let clauses : has_bad_clauses row ≡ false = rw (k2.1, h1.1, h3.1, h4.1, h2.1, l1.1) refl in
    record {
      storage = l2.1;
      record_size = l3.1;
      level = rw (h1.0, repeated, clauses) refl;
      picture = kept_picture row.spelled u l1.0;
    }

pub laid_rows : (before items : List DataItem) → list_any is_item_past_limit (spots_after before items) ≡ false → list_any is_item_outside (spots_after before items) ≡ false
    → list_any is_item_of_wrong_kind (spots_after before items) ≡ false → list_any (λ (item : DataItem). is_unreadable item.row.spelled) items ≡ false
    → faults_after (map (λ item. item.row) before) (map (λ item. item.row) items) ≡ []
laid_rows before [] l o k u = refl
laid_rows before (x ∷ items) l o k u =
    let spot = spot_of before x items in
    let ls = neither (is_item_past_limit spot) _ l in
    let os = neither (is_item_outside spot) _ o in
    let ks = neither (is_item_of_wrong_kind spot) _ k in
    let us = neither (is_unreadable x.row.spelled) _ u in
    let good = good_row spot ls.0 os.0 ks.0 us.0 in
    let later = laid_rows (before ++ x ∷ []) items ls.1 os.1 ks.1 us.1 in
    rw (good.storage, good.record_size, good.level, good.picture, ← map-append (λ (item : DataItem). item.row) before (x ∷ [])) later

pub laid_out : (front : Front) (h : IsFaultless front) → layout_faults (strays (sections front)) (map (λ item. item.row) h.items) ≡ []
laid_out front h =
    let none = none_fails front h.items h.screens (faultless_of front h.items h.screens h.faultless) in
    rw none.strays_are (laid_rows [] h.items none.past none.outside none.wrong none.unreadable)

none_least : (fault : LayoutFault) → IsLeast [] fault → ⊥
none_least fault h = let among = h.among in omega (arith, among.1)

-- it has no fault of its layout
pub no_fault_of : (front : Front) (fault : LayoutFault) → IsFaultless front → IsFaultOf (sections front) fault → ⊥
no_fault_of front fault h f =
    let rows = all_rows_once 0 (sections front) f.rows (map (λ item. item.row) h.items) f.texts (map (λ item. item.text) h.items) f.read h.items_are.rows in
    none_least fault (subst (λ all. IsLeast all fault) (ap (layout_faults (strays (sections front))) rows.0 ∙ laid_out front h) f.least)

-- laying it out fails for want of memory alone
pub only_memory : (front : Front) (fault : LayoutFault) → IsFaultless front → (fault ≡ LayoutFault.NoMemory) ⊎ IsFaultOf (sections front) fault → fault ≡ LayoutFault.NoMemory
only_memory front fault h (inl e) = e
only_memory front fault h (inr f) = absurd (no_fault_of front fault h f)

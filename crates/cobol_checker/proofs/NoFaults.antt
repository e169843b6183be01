-- What a front has of which no condition fails.
use Rattle.std.proofs.Common.{◌≡◌, refl, Bool, true, false, ℕ, List, [], ◌∷◌, ◌++◌, map, drop}
use Rattle.std.specs.Prelude.{if◌then◌else◌, filter}
use Rattle.std.specs.List.{list_any}
use Rattle.cob_base.specs.declared.line.Line.{Line}
use Rattle.cob_base.specs.declared.divisions.Front.{Front}
use Rattle.cob_base.specs.declared.file_entries.FileEntry.{FileEntry}
use Rattle.data_layout.specs.Rows.{sections, strays}
use Rattle.data_layout.specs.Faults.{is_unreadable}
use Rattle.data_names.specs.Items.{DataItem}
use Rattle.data_names.specs.Parts.{files}
use Rattle.data_names.specs.Spots.{Spot, spots}
use Rattle.entry_clauses.specs.ScreenItems.{ScreenItem}
use Rattle.name_rules.specs.Faults.{faults_at}
use Rattle.front_rules.specs.Faults.{front_faults}
use Rattle.name_rules.specs.UnknownNames.{unknown_names, ambiguous_names}
use Rattle.name_rules.specs.DoubleNames.{double_names}
use Rattle.front_rules.specs.Pictures.{bad_pictures, has_bad_screen_picture}
use Rattle.front_rules.specs.Limits.{past_limits, is_item_past_limit, has_key_past_limit}
use Rattle.entry_clauses.specs.Spelled.{is_too_wide}
use Rattle.front_rules.specs.Kinds.{wrong_kinds, wrong_in_environment, wrong_in_data, is_item_of_wrong_kind}
use Rattle.screen_rules.specs.ScreenKinds.{is_screen_of_wrong_kind}
use Rattle.front_rules.specs.Levels.{misplaced_entries}
use Rattle.key_rules.specs.KeyPlaces.{bad_key_places, has_bad_keys}
use Rattle.front_rules.specs.Outside.{left_out, is_file_outside, is_item_outside, is_screen_outside}
use Rattle.screen_rules.specs.Placing.{off_screen}
use Rattle.name_rules.specs.Subscripts.{miscounted_subscripts}

-- ---- empty lists

pub empty_parts : {A : Type 0} (a b : List A) → a ++ b ≡ [] → (a ≡ []) × (b ≡ [])
empty_parts [] b h = (refl, h)
empty_parts (x ∷ a) b h = cc

pub map_empty : {A B : Type 0} (f : A → B) (xs : List A) → map f xs ≡ [] → xs ≡ []
map_empty f [] h = refl
map_empty f (x ∷ xs) h = cc

chosen_none : {A : Type 0} (b : Bool) (x : A) (xs : List A) → (if b then x ∷ xs else xs) ≡ [] → (b ≡ false) × (xs ≡ [])
chosen_none true x xs h = cc
chosen_none false x xs h = (refl, h)

pub filter_empty : {A : Type 0} (test : A → Bool) (xs : List A) → filter test xs ≡ [] → list_any test xs ≡ false
filter_empty test [] h = refl
filter_empty test (x ∷ xs) h =
    let parts = chosen_none (test x) x (filter test xs) h in rw parts.0 (filter_empty test xs parts.1)

-- none passes where no line is told
pub none_told : {A : Type 0} (line : A → Line) (test : A → Bool) (xs : List A) → map line (filter test xs) ≡ [] → list_any test xs ≡ false
none_told line test xs h = filter_empty test xs (map_empty line (filter test xs) h)

-- ---- the lists of faults

pub record Faultless (front : Front) (items : List DataItem) (screens : List ScreenItem) : Type 0 where
  pub unknown : unknown_names front items ≡ []
  pub ambiguous : ambiguous_names front items ≡ []
  pub pictures : bad_pictures items screens ≡ []
  pub limits : past_limits front items screens ≡ []
  pub kinds : wrong_kinds front items screens ≡ []
  pub keys : bad_key_places front items ≡ []
  pub outside : left_out front items screens ≡ []
  pub placing : off_screen screens ≡ []
  pub subscripts : miscounted_subscripts front items ≡ []

none_at : (n : ℕ) (lines : List Line) → faults_at n lines ≡ [] → lines ≡ []
none_at n lines h = map_empty (λ (line : Line). record { line = line; reason = n }) lines h

pub faultless_of : (front : Front) (items : List DataItem) (screens : List ScreenItem) → front_faults front items screens ≡ [] → Faultless front items screens
faultless_of front items screens h =
    let a = empty_parts _ (faults_at 13 (miscounted_subscripts front items)) h in
    let b = empty_parts _ (faults_at 11 (off_screen screens)) a.0 in
    let c = empty_parts _ (faults_at 10 (left_out front items screens)) b.0 in
    let d = empty_parts _ (faults_at 7 (bad_key_places front items)) c.0 in
    let e = empty_parts _ (faults_at 6 (wrong_kinds front items screens)) d.0 in
    let f = empty_parts _ (faults_at 5 (past_limits front items screens)) e.0 in
    let g = empty_parts _ (faults_at 4 (bad_pictures items screens)) f.0 in
    let i = empty_parts _ (faults_at 3 (double_names front items screens)) g.0 in
    let j = empty_parts (faults_at 1 (unknown_names front items)) (faults_at 2 (ambiguous_names front items)) i.0 in
    record {
      unknown = none_at 1 (unknown_names front items) j.0;
      ambiguous = none_at 2 (ambiguous_names front items) j.1;
      pictures = none_at 4 (bad_pictures items screens) g.1;
      limits = none_at 5 (past_limits front items screens) f.1;
      kinds = none_at 6 (wrong_kinds front items screens) e.1;
      keys = none_at 7 (bad_key_places front items) d.1;
      outside = none_at 10 (left_out front items screens) c.1;
      placing = none_at 11 (off_screen screens) b.1;
      subscripts = none_at 13 (miscounted_subscripts front items) a.1;
    }

-- ---- what no item, screen or file has

pub record NoneFails (front : Front) (items : List DataItem) (screens : List ScreenItem) : Type 0 where
  pub unreadable : list_any (λ (item : DataItem). is_unreadable item.row.spelled) items ≡ false
  pub screen_pictures : list_any has_bad_screen_picture screens ≡ false
  pub past : list_any is_item_past_limit (spots items) ≡ false
  pub screens_past : list_any (λ (item : ScreenItem). is_too_wide item.row.spelled) screens ≡ false
  pub keys_past : list_any (has_key_past_limit items) (files front) ≡ false
  pub strays_are : strays (sections front) ≡ []
  pub wrong : list_any is_item_of_wrong_kind (spots items) ≡ false
  pub screens_wrong : list_any (is_screen_of_wrong_kind items) (spots screens) ≡ false
  pub bad_keys : list_any (has_bad_keys front items) (files front) ≡ false
  pub outside : list_any is_item_outside (spots items) ≡ false
  pub screens_outside : list_any is_screen_outside screens ≡ false

pub none_fails : (front : Front) (items : List DataItem) (screens : List ScreenItem) → Faultless front items screens → NoneFails front items screens
none_fails front items screens h =
    let file_line : FileEntry → Line = λ (file : FileEntry). file.line in
    let spot_line : Spot DataItem → Line = λ (spot : Spot DataItem). spot.item.row.line in
    let screen_line : ScreenItem → Line = λ (item : ScreenItem). item.row.line in
    let pictures = empty_parts (map (λ (item : DataItem). item.row.line) (filter (λ (item : DataItem). is_unreadable item.row.spelled) items)) (map screen_line (filter has_bad_screen_picture screens)) h.pictures in
    let limit3 = empty_parts _ (map file_line (drop 65535 (files front))) h.limits in
    let limit2 = empty_parts _ (map file_line (filter (has_key_past_limit items) (files front))) limit3.0 in
    let limit1 = empty_parts (map spot_line (filter is_item_past_limit (spots items))) (map screen_line (filter (λ (item : ScreenItem). is_too_wide item.row.spelled) screens)) limit2.0 in
    let kinds2 = empty_parts _ (map (λ (spot : Spot ScreenItem). spot.item.row.line) (filter (is_screen_of_wrong_kind items) (spots screens))) h.kinds in
    let kinds1 = empty_parts (wrong_in_environment front items) (wrong_in_data front items) kinds2.0 in
    let inside2 = empty_parts _ (map spot_line (filter is_item_of_wrong_kind (spots items))) kinds1.1 in
    let inside1 = empty_parts _ (misplaced_entries front) inside2.0 in
    let strays_first = empty_parts (strays (sections front)) _ inside1.1 in
    let out2 = empty_parts _ (map screen_line (filter is_screen_outside screens)) h.outside in
    let out1 = empty_parts (map file_line (filter is_file_outside (files front))) (map spot_line (filter is_item_outside (spots items))) out2.0 in
    record {
      unreadable = none_told (λ (item : DataItem). item.row.line) (λ (item : DataItem). is_unreadable item.row.spelled) items pictures.0;
      screen_pictures = none_told screen_line has_bad_screen_picture screens pictures.1;
      past = none_told spot_line is_item_past_limit (spots items) limit1.0;
      screens_past = none_told screen_line (λ (item : ScreenItem). is_too_wide item.row.spelled) screens limit1.1;
      keys_past = none_told file_line (has_key_past_limit items) (files front) limit2.1;
      strays_are = strays_first.0;
      wrong = none_told spot_line is_item_of_wrong_kind (spots items) inside2.1;
      screens_wrong = none_told (λ (spot : Spot ScreenItem). spot.item.row.line) (is_screen_of_wrong_kind items) (spots screens) kinds2.1;
      bad_keys = none_told file_line (has_bad_keys front items) (files front) h.keys;
      outside = none_told spot_line is_item_outside (spots items) out1.1;
      screens_outside = none_told screen_line is_screen_outside screens out2.1;
    }

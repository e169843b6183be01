-- A key of a file of a front without faults lies in the file's record.
use Rattle.std.proofs.Common.{◌≡◌, ◌∙◌, refl, sym, ap, subst, arith, ℕ, zero, suc, ◌+◌, ◌≤◌, ◌==◌, Bool, true, false, not, ◌&&◌, ◌||◌, nat_lt, List, [], ◌∷◌, ◌++◌, append_assoc, append-nil, length, map, Option, Some, None}
use Rattle.std.specs.Prelude.{find, is_some}
use Rattle.std.specs.List.{list_any, list_all}
use Rattle.std.proofs.lemmas.Bool.{eqb-true, eq-eqb}
use Rattle.std.proofs.lemmas.Bool.Decides.{nat_tests}
use Rattle.std.proofs.lemmas.List.{map-append}
use Rattle.std.proofs.lemmas.List.Folds.{list_all-append}
use Rattle.cob_base.specs.declared.divisions.Front.{Front}
use Rattle.cob_base.specs.declared.file_entries.FileEntry.{FileEntry}
use Rattle.cob_base.specs.declared.operands.Reference.{Reference}
use Rattle.data_layout.specs.declared.row.Row.{Row}
use Rattle.data_layout.specs.Storage.{goes_on, members, storage}
use Rattle.data_layout.specs.Faults.{has_size, is_in_range, passes_storage, passes_record}
use Rattle.data_names.specs.Items.{DataItem}
use Rattle.data_names.specs.Spots.{Spot, spots, spots_after, spot_of, groups_of, rows_before, rows_after, bytes_of, around, is_sized, is_repeated, is_table, is_record, is_in_record}
use Rattle.data_names.specs.References.{found, only_one, matching, is_match, count_of_matches}
use Rattle.data_names.proofs.Cuts.{spot_cut}
use Rattle.front_rules.specs.Limits.{is_item_past_limit, is_key_past_limit}
use Rattle.entry_clauses.specs.Spelled.{is_too_wide}
use Rattle.key_rules.specs.KeyPlaces.{description_of, same_number, is_of_record, is_signed_item, is_no_key, is_unsized_under, placed_key}
use Rattle.key_rules.specs.Descriptions.{is_record_under}
use Rattle.cobol_checker.specs.Shapes.{record_of}
use Rattle.cobol_checker.specs.Sound.{IsPlaceIn}
use Rattle.cobol_checker.proofs.Sectioned.{Sectioned, one_file, inside_file, first_of_file}
use Rattle.cobol_checker.proofs.Grouped.{AreGrouped, is_group}
use Rattle.cobol_checker.proofs.RecordBytes.{within_record, ends_within, group_bytes, no_less, size_within, while_all}
use Rattle.cobol_checker.proofs.Groups.{InGroup, in_group, group_lacks, found_first}

-- ---- tests

neither : (a b : Bool) → (a || b) ≡ false → (a ≡ false) × (b ≡ false)
neither false false h = (refl, refl)
neither false true h = cc h
neither true b h = cc h

both : (a b : Bool) → (a && b) ≡ true → (a ≡ true) × (b ≡ true)
both true b h = (refl, h)
both false b h = cc h

not_false : (b : Bool) → not b ≡ false → b ≡ true
not_false true h = refl
not_false false h = cc h

second : (a b : Bool) → (a && b) ≡ false → a ≡ true → b ≡ false
second true b h e = h
second false b h e = cc e

no_more : (k n : ℕ) → nat_lt k n ≡ false → n ≤ k
no_more k n h = grind (arith, nat_tests)

number_known : (number : ℕ) (file : Option ℕ) → same_number (Some number) file ≡ true → file ≡ Some number
number_known number None h = cc h
number_known number (Some m) h = ap Some (sym (eqb-true number m h))

-- ---- what holds of all items

-- what a front without faults says of its items
pub record Whole (items : List DataItem) : Type 0 where
  pub sections : Sectioned None 0 items
  pub grouped : AreGrouped (map (λ (item : DataItem). item.row) items)
  pub past : list_any is_item_past_limit (spots items) ≡ false
  pub sized : list_all (λ (item : DataItem). has_size item.row) items ≡ true
  pub total : storage (map (λ (item : DataItem). item.row) items) ≤ 1000000

lacks_at : (p : Spot DataItem → Bool) (before ahead : List DataItem) (g : DataItem) (rest : List DataItem) → list_any p (spots_after before (ahead ++ g ∷ rest)) ≡ false → p (spot_of (before ++ ahead) g rest) ≡ false
lacks_at p before [] g rest n = rw append-nil (neither (p (spot_of before g rest)) _ n).0
lacks_at p before (x ∷ ahead) g rest n =
    subst (λ (front : List DataItem). p (spot_of front g rest) ≡ false) (append_assoc before (x ∷ []) ahead)
    (lacks_at p (before ++ x ∷ []) ahead g rest (neither (p (spot_of before x (ahead ++ g ∷ rest))) _ n).1)

sized_map : (items : List DataItem) → list_all (λ (item : DataItem). has_size item.row) items ≡ true → list_all has_size (map (λ (item : DataItem). item.row) items) ≡ true
sized_map [] e = refl
sized_map (x ∷ items) e = let parts = both (has_size x.row) _ e in rw (parts.0, sized_map items parts.1) refl

-- every size in an item is known
sized_from : (ahead : List DataItem) (g : DataItem) (rest : List DataItem) → list_all (λ (item : DataItem). has_size item.row) (ahead ++ g ∷ rest) ≡ true
    → list_all has_size (g.row ∷ members g.row (map (λ (item : DataItem). item.row) rest)) ≡ true
sized_from ahead g rest e =
    let later = (both (list_all (λ (item : DataItem). has_size item.row) ahead) _ (sym (list_all-append (λ (item : DataItem). has_size item.row) ahead (g ∷ rest)) ∙ e)).1 in
    let parts = both (has_size g.row) _ later in
    rw (parts.0, while_all (goes_on g.row) has_size (map (λ (item : DataItem). item.row) rest) (sized_map rest parts.1)) refl

no_more_unsized : (a b c : Bool) → b ≡ true → c ≡ false → ((a && not b) || c) ≡ false
no_more_unsized true true c e f = f
no_more_unsized false b c e f = f
no_more_unsized true false c e f = cc e

-- where every size is known, none under a description is unknown
none_unsized : (description : Option ℕ) (items : List DataItem) → list_all (λ (item : DataItem). has_size item.row) items ≡ true → list_any (is_unsized_under description) items ≡ false
none_unsized description [] e = refl
none_unsized description (x ∷ items) e =
    let parts = both (has_size x.row) _ e in
    no_more_unsized (same_number description x.source.file) (has_size x.row) (list_any (is_unsized_under description) items) parts.0 (none_unsized description items parts.1)

few_bytes : (a b c : Bool) (n : ℕ) → a ≡ true → b ≡ true → c ≡ true → (a && b && c && nat_lt 512 n) ≡ false → n ≤ 512
few_bytes a b c n e f g h = no_more 512 n (rw (e, f, g) at h)

-- the record that begins here has 512 bytes at most
record_bytes : (items ahead : List DataItem) (g : DataItem) (rest : List DataItem) (number : ℕ) → Whole items → items ≡ ahead ++ g ∷ rest → is_record g ≡ true → g.source.file ≡ Some number
    → storage (g.row ∷ members g.row (map (λ (item : DataItem). item.row) rest)) ≤ 512
record_bytes items ahead g rest number w cut r e =
    let rows : List Row = map (λ (item : DataItem). item.row) rest in
    let sections = subst (Sectioned None 0) cut w.sections in
    let past = subst (λ (all : List DataItem). list_any is_item_past_limit (spots all) ≡ false) cut w.past in
    let sized = subst (λ (all : List DataItem). list_all (λ (item : DataItem). has_size item.row) all ≡ true) cut w.sized in
    let spot = spot_of ahead g rest in
    let kept = (neither (is_too_wide g.row.spelled || not (is_in_range g.row.occurs) || passes_storage (rows_before spot) g.row) (passes_record g.row rows) (lacks_at is_item_past_limit [] ahead g rest past)).1 in
    let inside : g.row.in_file ≡ true = inside_file None 0 ahead g rest sections ∙ ap is_some e in
    few_bytes g.row.in_file (g.row.level == 1) (list_all has_size (g.row ∷ members g.row rows)) _ inside (both g.row.starts (g.row.level == 1) r).1 (sized_from ahead g rest sized) kept

any_and : (test p : DataItem → Bool) (xs : List DataItem) → list_any test xs ≡ false → list_any (λ x. test x && p x) xs ≡ false
any_and test p [] e = refl
any_and test p (x ∷ xs) e = let parts = neither (test x) (list_any test xs) e in rw (parts.0, any_and test p xs parts.1) refl

-- the record of a file is the item that begins its section
record_found : (front : Front) (items : List DataItem) (file : FileEntry) (ahead : List DataItem) (g : DataItem) (rest : List DataItem) (number : ℕ) → Whole items → items ≡ ahead ++ g ∷ rest
    → is_record g ≡ true → g.source.file ≡ Some number → description_of front file.name ≡ Some number → record_of front items file ≡ Some (spot_of ahead g rest)
record_found front items file ahead g rest number w cut r e d =
    let sections = subst (Sectioned None 0) cut w.sections in
    let none = (first_of_file None 0 ahead g rest number tt sections (both g.row.starts (g.row.level == 1) r).0 e).1 in
    let same : same_number (Some number) g.source.file ≡ true = ap (same_number (Some number)) e ∙ eq-eqb number number refl in
    let passes : is_record_under (Some number) g ≡ true = rw (same, r) refl in
    ap (λ description. find (λ (spot : Spot DataItem). is_record_under description spot.item) (spots items)) d
    ∙ ap (λ (all : List DataItem). find (λ (spot : Spot DataItem). is_record_under (Some number) spot.item) (spots all)) cut
    ∙ found_first (is_record_under (Some number)) [] ahead g rest (any_and (λ (item : DataItem). same_number (Some number) item.source.file) is_record ahead none) passes

-- ---- a key

pub record KeyGood (front : Front) (items : List DataItem) (file : FileEntry) (number : ℕ) (key : Reference) : Type 0 where
  pub spot : Spot DataItem
  pub found_is : found items key ≡ Some spot
  pub owner : Spot DataItem
  pub owner_is : record_of front items file ≡ Some owner
  pub inside : IsPlaceIn (storage (rows_before owner)) spot
  pub few : bytes_of owner ≤ 512
  pub begins : storage (rows_before owner) ≤ 1000000
  pub some : 1 ≤ bytes_of spot
  pub ends : storage (rows_before spot) + bytes_of spot ≤ storage (rows_before owner) + bytes_of owner
  pub placed : placed_key (Some number) (Some spot) ≡ Some spot

-- the record around an item
record Owner (front : Front) (items : List DataItem) (file : FileEntry) (spot : Spot DataItem) : Type 0 where
  owner : Spot DataItem
  owner_is : record_of front items file ≡ Some owner
  low : storage (rows_before owner) ≤ storage (rows_before spot)
  high : storage (rows_before spot) ≤ storage (rows_before owner) + 512
  ends : storage (rows_before spot) + bytes_of spot ≤ storage (rows_before owner) + bytes_of owner
  few : bytes_of owner ≤ 512
  begins : storage (rows_before owner) ≤ 1000000

before_total : (items ahead rest : List DataItem) → Whole items → items ≡ ahead ++ rest → storage (map (λ (item : DataItem). item.row) ahead) ≤ 1000000
before_total items ahead rest w cut =
    let rows : map (λ (item : DataItem). item.row) items ≡ map (λ (item : DataItem). item.row) ahead ++ map (λ (item : DataItem). item.row) rest = ap (map (λ (item : DataItem). item.row)) cut ∙ map-append (λ (item : DataItem). item.row) ahead rest in
    omega (arith, w.total, ap storage rows, no_less (map (λ (item : DataItem). item.row) ahead) (map (λ (item : DataItem). item.row) rest))

owner_itself : (front : Front) (items : List DataItem) (file : FileEntry) (spot : Spot DataItem) (number : ℕ) → Whole items → items ≡ spot.before ++ spot.item ∷ spot.rest
    → is_record spot.item ≡ true → spot.item.source.file ≡ Some number → description_of front file.name ≡ Some number → Owner front items file spot
owner_itself front items file spot number w cut r e d =
    let bytes = record_bytes items spot.before spot.item spot.rest number w cut r e in
    record {
      owner = spot;
      owner_is = record_found front items file spot.before spot.item spot.rest number w cut r e d;
      low = omega arith;
      high = omega arith;
      ends = omega arith;
      few = omega (arith, bytes, size_within spot.item.row (rows_after spot));
      begins = before_total items spot.before (spot.item ∷ spot.rest) w cut;
    }

goes_map : (g : Row) (xs : List DataItem) → list_all (λ (other : DataItem). goes_on g other.row) xs ≡ true → list_all (goes_on g) (map (λ (item : DataItem). item.row) xs) ≡ true
goes_map g [] e = refl
goes_map g (x ∷ xs) e = let parts = both (goes_on g x.row) _ e in rw (parts.0, goes_map g xs parts.1) refl

goes_inside : (g : Row) (xs : List DataItem) → list_all (λ (other : DataItem). goes_on g other.row) xs ≡ true → list_all (λ (item : DataItem). not item.row.starts) xs ≡ true
goes_inside g [] e = refl
goes_inside g (x ∷ xs) e =
    let parts = both (goes_on g x.row) _ e in
    let here = (both (not x.row.starts) _ parts.0).0 in rw (here, goes_inside g xs parts.1) refl

owner_around : (front : Front) (items : List DataItem) (file : FileEntry) (spot : Spot DataItem) (number : ℕ) → Whole items → items ≡ spot.before ++ spot.item ∷ spot.rest
    → is_table spot ≡ false → InGroup spot.before spot.item is_record → spot.item.source.file ≡ Some number → description_of front file.name ≡ Some number → Owner front items file spot
owner_around front items file spot number w cut alone i e d =
    let rest = i.middle ++ spot.item ∷ spot.rest in
    let cut' : items ≡ i.ahead ++ i.group ∷ rest = cut ∙ ap (λ (front : List DataItem). front ++ spot.item ∷ spot.rest) i.cut ∙ append_assoc i.ahead (i.group ∷ i.middle) (spot.item ∷ spot.rest) in
    let all : list_all (λ (other : DataItem). goes_on i.group.row other.row) (i.middle ++ spot.item ∷ []) ≡ true = list_all-append (λ (other : DataItem). goes_on i.group.row other.row) i.middle (spot.item ∷ []) ∙ rw (i.goes, i.holds) refl in
    let sections = subst (Sectioned None 0) cut' w.sections in
    let same = one_file None 0 i.ahead i.group i.middle spot.item spot.rest sections (goes_inside i.group.row (i.middle ++ spot.item ∷ []) all) in
    let file_is : i.group.source.file ≡ Some number = sym same ∙ e in
    let bytes = record_bytes items i.ahead i.group rest number w cut' i.passes file_is in
    let rows : List DataItem → List Row = map (λ (item : DataItem). item.row) in
    let before_is : rows spot.before ≡ rows i.ahead ++ i.group.row ∷ rows i.middle = ap rows i.cut ∙ map-append (λ (item : DataItem). item.row) i.ahead (i.group ∷ i.middle) in
    let rest_is : rows rest ≡ rows i.middle ++ spot.item.row ∷ rows spot.rest = map-append (λ (item : DataItem). item.row) i.middle (spot.item ∷ spot.rest) in
    let open_is : list_all (goes_on i.group.row) (rows i.middle ++ spot.item.row ∷ []) ≡ true = ap (list_all (goes_on i.group.row)) (sym (map-append (λ (item : DataItem). item.row) i.middle (spot.item ∷ []))) ∙ goes_map i.group.row (i.middle ++ spot.item ∷ []) all in
    let within = within_record (rows i.ahead) i.group.row (rows i.middle) spot.item.row (rows spot.rest) (both i.group.row.starts (i.group.row.level == 1) i.passes).0 open_is in
    let members_are : storage (i.group.row ∷ members i.group.row (rows i.middle ++ spot.item.row ∷ rows spot.rest)) ≡ storage (i.group.row ∷ members i.group.row (rows rest)) = ap (λ (later : List Row). storage (i.group.row ∷ members i.group.row later)) (sym rest_is) in
    let rows_are : rows items ≡ rows i.ahead ++ i.group.row ∷ (rows i.middle ++ spot.item.row ∷ rows spot.rest) = ap rows cut' ∙ map-append (λ (item : DataItem). item.row) i.ahead (i.group ∷ rest) ∙ ap (λ (later : List Row). rows i.ahead ++ i.group.row ∷ later) rest_is in
    let group : i.group.row.group ≡ true = is_group (rows i.ahead) i.group.row (rows i.middle) spot.item.row (rows spot.rest) (subst AreGrouped rows_are w.grouped) open_is in
    let repeated = subst (λ (front : List DataItem). list_any (λ (other : DataItem). is_some other.row.occurs) (around (λ other. other.row) front spot.item) ≡ false) i.cut (neither (is_repeated spot) (is_some spot.item.row.occurs) alone).0 in
    let once : is_some i.group.row.occurs ≡ false = group_lacks (λ (other : DataItem). is_some other.row.occurs) i.ahead i.group i.middle spot.item i.goes i.holds repeated in
    let ends = ends_within (rows i.ahead) i.group.row (rows i.middle) spot.item.row (rows spot.rest) (both i.group.row.starts (i.group.row.level == 1) i.passes).0 open_is in
    record {
      owner = spot_of i.ahead i.group rest;
      owner_is = record_found front items file i.ahead i.group rest number w cut' i.passes file_is d;
      low = omega (arith, ap storage before_is, no_less (rows i.ahead) (i.group.row ∷ rows i.middle));
      high = omega (arith, ap storage before_is, within, members_are, bytes);
      ends = omega (arith, ap storage before_is, ends, members_are, group_bytes i.group.row (rows rest) group once);
      few = omega (arith, bytes, size_within i.group.row (rows rest));
      begins = before_total items i.ahead (i.group ∷ rest) w cut';
    }

either_owner : (front : Front) (items : List DataItem) (file : FileEntry) (spot : Spot DataItem) (number : ℕ) (b : Bool) → is_record spot.item ≡ b → Whole items → items ≡ spot.before ++ spot.item ∷ spot.rest
    → is_table spot ≡ false → (list_any is_record (groups_of spot) || b) ≡ true → spot.item.source.file ≡ Some number → description_of front file.name ≡ Some number → Owner front items file spot
either_owner front items file spot number true r w cut alone e f d = owner_itself front items file spot number w cut r f d
either_owner front items file spot number false r w cut alone e f d =
    owner_around front items file spot number w cut alone (in_group spot.before spot.item is_record (first (list_any is_record (groups_of spot)) e)) f d
  where
    first : (a : Bool) → (a || false) ≡ true → a ≡ true
    first true e = refl
    first false e = cc e

one_of : {A : Type 0} (xs : List A) → (length xs == 0) ≡ false → nat_lt 1 (length xs) ≡ false → (x : A) × (xs ≡ x ∷ [])
one_of [] e f = cc e
one_of (x ∷ []) e f = (x, refl)
one_of (x ∷ (y ∷ xs)) e f = absurd (omega (arith, no_more 1 (length (x ∷ (y ∷ xs))) f))

few_of_key : (a b : Bool) (n : ℕ) → a ≡ true → (a && (b || nat_lt 64 n)) ≡ false → n ≤ 64
few_of_key a b n e h = no_more 64 n (neither b (nat_lt 64 n) (second a (b || nat_lt 64 n) h e)).1

some_of_key : (a c : Bool) (n : ℕ) → a ≡ true → (a && ((n == 0) || c)) ≡ false → 1 ≤ n
some_of_key a c n e h = not_none n (neither (n == 0) c (second a ((n == 0) || c) h e)).0
  where
    not_none : (m : ℕ) → (m == 0) ≡ false → 1 ≤ m
    not_none zero f = cc f
    not_none (suc m) f = omega arith

pub key_good : (front : Front) (items : List DataItem) (file : FileEntry) (number : ℕ) (key : Reference) → Whole items → description_of front file.name ≡ Some number
    → (count_of_matches items key == 0) ≡ false → nat_lt 1 (count_of_matches items key) ≡ false → is_no_key (Some number) (found items key) ≡ false → is_key_past_limit (found items key) ≡ false
    → KeyGood front items file number key
key_good front items file number key w d some few lies past =
    let one = one_of (matching items key.name key.qualifiers) some few in
    let spot = one.0 in
    let found_is : found items key ≡ Some spot = ap only_one one.1 in
    let cut : items ≡ spot.before ++ spot.item ∷ spot.rest = spot_cut (is_match key.name key.qualifiers) [] items spot one.1 in
    let no' = rw found_is at lies in
    let past' = rw found_is at past in
    let signed = neither (not (is_of_record (Some number) spot) || is_table spot) (is_signed_item spot.item) no' in
    let tables = neither (not (is_of_record (Some number) spot)) (is_table spot) signed.0 in
    let of_record : is_of_record (Some number) spot ≡ true = not_false (is_of_record (Some number) spot) tables.0 in
    let parts = both (same_number (Some number) spot.item.source.file) (is_in_record spot) of_record in
    let file_is = number_known number spot.item.source.file parts.0 in
    let owner = either_owner front items file spot number (is_record spot.item) refl w cut tables.1 parts.1 file_is d in
    let sized = subst (λ (all : List DataItem). list_all (λ (item : DataItem). has_size item.row) all ≡ true) cut w.sized in
    let known : is_sized spot ≡ true = sized_from spot.before spot.item spot.rest sized in
    let bytes : bytes_of spot ≤ 64 = few_of_key (is_sized spot) (bytes_of spot == 0) (bytes_of spot) known past' in
    let ahead = both (list_all (λ (item : DataItem). has_size item.row) spot.before) _ (sym (list_all-append (λ (item : DataItem). has_size item.row) spot.before (spot.item ∷ spot.rest)) ∙ sized) in
    let none : list_any (is_unsized_under (Some number)) spot.before ≡ false = none_unsized (Some number) spot.before ahead.0 in
    let small : storage (rows_before spot) ≤ 1000000 = before_total items spot.before (spot.item ∷ spot.rest) w cut in
    record {
      spot = spot;
      found_is = found_is;
      owner = owner.owner;
      owner_is = owner.owner_is;
      inside = record { low = owner.low; high = owner.high; small = small; few = bytes };
      few = owner.few;
      begins = owner.begins;
      some = some_of_key (is_sized spot) (nat_lt 64 (bytes_of spot)) (bytes_of spot) known past';
      ends = owner.ends;
      placed = rw (of_record, tables.1, known, none) refl;
    }

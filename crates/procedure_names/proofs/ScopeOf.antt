-- What the names of a scope stand for.
use Rattle.std.proofs.Common.{◌≡◌, ◌∙◌, refl, sym, ap, subst, arith, ℕ, zero, suc, ◌<◌, ◌==◌, ◌&&◌, Bool, true, false, List, [], ◌∷◌, ◌++◌, length, map, Option, Some, None}
use Rattle.std.specs.Prelude.{if◌then◌else◌, find, is_some, position, slice_get}
use Rattle.std.specs.List.{list_any}
use Rattle.cob_base.specs.declared.divisions.Front.{Front}
use Rattle.cob_base.specs.declared.file_entries.FileEntry.{FileEntry}
use Rattle.cob_base.specs.declared.screen_entries.ScreenEntry.{ScreenEntry}
use Rattle.cob_base.specs.declared.paragraphs.Paragraph.{Paragraph}
use Rattle.data_names.specs.Parts.{files}
use Rattle.data_names.specs.Items.{DataItem}
use Rattle.data_names.specs.Spots.{Spot, spots, spots_after, is_record}
use Rattle.data_names.specs.References.{is_called}
use Rattle.key_rules.specs.Descriptions.{IsDescription, is_record_under}
use Rattle.key_rules.specs.KeyPlaces.{description_of, same_number}
use Rattle.key_rules.specs.declared.descriptions.Description.{Description}
use Rattle.procedure_names.specs.Names.{record_named, is_level_record, is_screen_of, paragraph_named, record_of_file}
use Rattle.procedure_names.specs.Scoped.{name_of_record, name_of_screen}
use Rattle.procedure_names.specs.Firsts.{at_number}
use Rattle.procedure_names.specs.SeenConditions.{IsSpotAt}
use Rattle.procedure_names.proofs.FirstOf.{found_by, found_at, found_nowhere, is_found, any_found, position-map, position-same, position_within}
use Rattle.procedure_names.proofs.KnownConditions.{length-spots_after}

-- ---- items among the others

items_of_spots : {A : Type 0} (before items : List A) → map (λ spot. spot.item) (spots_after before items) ≡ items
items_of_spots before [] = refl
items_of_spots before (x ∷ items) = ap (λ rest. x ∷ rest) (items_of_spots (before ++ x ∷ []) items)

-- a test of an item passes first at the same number among the spots
pub position-spots : {A : Type 0} (test : A → Bool) (items : List A) → position test items ≡ position (λ spot. test spot.item) (spots items)
position-spots test items = ap (position test) (sym (items_of_spots [] items)) ∙ position-map test (λ (spot : Spot _). spot.item) (spots items)

some_at : {A : Type 0} (xs : List A) (k : ℕ) → k < length xs → is_some (slice_get xs k) ≡ true
some_at [] k h = absurd (omega arith)
some_at (x ∷ xs) zero h = refl
some_at (x ∷ xs) (suc k) h = some_at xs k (omega arith)

pub spot_by : (items : List DataItem) (test : Spot DataItem → Bool) (number : Option ℕ) → number ≡ position test (spots items) → IsSpotAt items (find test (spots items)) number
spot_by items test None e = found_nowhere test (spots items) (sym e)
spot_by items test (Some at) e =
    let here : find test (spots items) ≡ slice_get (spots items) at = found_at test (spots items) at (sym e) in
    let within : at < length (spots items) = position_within test (spots items) at (sym e) in
    (omega (arith, within, length-spots_after [] items), sym here, ap is_some here ∙ some_at (spots items) at within)

-- ---- files

pub files_named : (files : List FileEntry) (name : List ℕ) → position (is_called name) (map (λ file. Some file.name) files) ≡ position (λ file. is_called name (Some file.name)) files
files_named files name = position-map (is_called name) (λ (file : FileEntry). Some file.name) files

pub file_by : (files : List FileEntry) (name : List ℕ) (number : Option ℕ) → number ≡ position (is_called name) (map (λ file. Some file.name) files)
    → find (λ file. is_called name (Some file.name)) files ≡ at_number files number
file_by files name number e = found_by (λ (file : FileEntry). is_called name (Some file.name)) files number (e ∙ files_named files name)

pub file_is : (files : List FileEntry) (name : List ℕ) (number : Option ℕ) → number ≡ position (is_called name) (map (λ file. Some file.name) files)
    → is_some number ≡ is_some (find (λ file. is_called name (Some file.name)) files)
file_is files name number e = is_found (λ (file : FileEntry). is_called name (Some file.name)) files number (e ∙ files_named files name)

-- ---- records

called_or_none : (name : List ℕ) (b : Bool) (other : Option (List ℕ)) → is_called name (if b then other else None) ≡ (b && is_called name other)
called_or_none name true other = refl
called_or_none name false other = refl

records_named : (items : List DataItem) (name : List ℕ)
    → position (is_called name) (map name_of_record items) ≡ position (λ spot. is_level_record spot && is_called name spot.item.text.name) (spots items)
records_named items name =
    position-map (is_called name) name_of_record items ∙ position-spots (λ (item : DataItem). is_called name (name_of_record item)) items
    ∙ position-same (λ (spot : Spot DataItem). is_called name (name_of_record spot.item)) (λ (spot : Spot DataItem). is_level_record spot && is_called name spot.item.text.name)
    (λ spot. called_or_none name (spot.item.row.in_file && (spot.item.row.level == 1)) spot.item.text.name) (spots items)

pub record_by : (items : List DataItem) (name : List ℕ) (number : Option ℕ) → number ≡ position (is_called name) (map name_of_record items) → IsSpotAt items (record_named items name) number
record_by items name number e = spot_by items (λ (spot : Spot DataItem). is_level_record spot && is_called name spot.item.text.name) number (e ∙ records_named items name)

pub record_is : (items : List DataItem) (name : List ℕ) (number : Option ℕ) → number ≡ position (is_called name) (map name_of_record items) → is_some number ≡ is_some (record_named items name)
record_is items name number e = is_found (λ (spot : Spot DataItem). is_level_record spot && is_called name spot.item.text.name) (spots items) number (e ∙ records_named items name)

-- ---- screens

pub screen_is : (entries : List ScreenEntry) (name : List ℕ) (number : Option ℕ) → number ≡ position (is_called name) (map name_of_screen entries) → is_some number ≡ list_any (is_screen_of name) entries
screen_is entries name number e =
    is_found (is_screen_of name) entries number
    (e ∙ position-map (is_called name) name_of_screen entries
    ∙ position-same (λ (entry : ScreenEntry). is_called name (name_of_screen entry)) (is_screen_of name) (λ entry. called_or_none name (entry.level == 1) entry.name) entries)
    ∙ any_found (is_screen_of name) entries

-- ---- paragraphs

pub paragraph_by : (paragraphs : List Paragraph) (name : List ℕ) → position (is_called name) (map (λ paragraph. paragraph.name) paragraphs) ≡ paragraph_named paragraphs name
paragraph_by paragraphs name = position-map (is_called name) (λ (paragraph : Paragraph). paragraph.name) paragraphs

-- ---- the record of a file

never : (spot : Spot DataItem) → (same_number None spot.item.source.file && is_record spot.item) ≡ false
never spot = refl

none_found : {A : Type 0} (xs : List A) → find (λ x. false) xs ≡ None
none_found [] = refl
none_found (x ∷ xs) = none_found xs

abbrev is_under : Option ℕ → Spot DataItem → Bool
is_under number spot = same_number number spot.item.source.file && is_record spot.item

pub no_record : (front : Front) (items : List DataItem) (file : FileEntry) → description_of front file.name ≡ None → record_of_file front items file ≡ None
no_record front items file e = ap (λ (number : Option ℕ). find (is_under number) (spots items)) e ∙ none_found (spots items)

pub record_under : (front : Front) (items : List DataItem) (file : FileEntry) (known : Description) → description_of front file.name ≡ Some known.number → IsDescription items known.number known
    → IsSpotAt items (record_of_file front items file) known.record
record_under front items file known e h =
    subst (λ (number : Option ℕ). IsSpotAt items (find (is_under number) (spots items)) known.record) (sym e)
    (spot_by items (is_under (Some known.number)) known.record (h.record_is ∙ position-spots (is_record_under (Some known.number)) items))

-- As many rows and texts as there are entries of items.
use Rattle.std.proofs.Common.{◌≡◌, ℕ, ◌+◌, refl, sym, ◌∙◌, ap, arith, Bool, List, [], ◌∷◌, ◌++◌, length, map, length-append, Option, Some, None}
use Rattle.std.proofs.lemmas.List.{length-map}
use Rattle.cob_base.specs.declared.divisions.Front.{Front}
use Rattle.cob_base.specs.declared.divisions.DataDivision.{DataDivision}
use Rattle.cob_base.specs.declared.divisions.FileDescription.{FileDescription}
use Rattle.cob_base.specs.declared.data_entries.DataEntry.{DataEntry}
use Rattle.cob_base.specs.declared.data_entries.DataEntry.TheVariants.{Item, Condition}
use Rattle.data_layout.specs.declared.row.Row.{Row}
use Rattle.data_layout.specs.declared.row.Described.{Described}
use Rattle.data_layout.specs.Rows.{Section, AreRows, AreAllRows, sections, data_sections, file_section, storage_section, or_none}
use Rattle.data_names.specs.Parts.{item_entries, descriptions_of, working_storage_of}
use Rattle.data_names.specs.Items.{file_sources, sources}
use Rattle.data_names.specs.Seen.{filed}

-- how many entries of items
abbrev pub entries_in : List Section → ℕ
entries_in [] = 0
entries_in (section ∷ others) = length (item_entries section.entries) + entries_in others

pub entries_in-append : (a b : List Section) → entries_in (a ++ b) ≡ entries_in a + entries_in b
entries_in-append [] b = omega arith
entries_in-append (section ∷ a) b = omega (arith, entries_in-append a b)

pub AreRows-length : (in_file starts : Bool) (n : ℕ) (entries : List DataEntry) (rows : List Row) (texts : List Described) → AreRows in_file starts n entries rows texts
    → (length rows ≡ length (item_entries entries)) × (length texts ≡ length (item_entries entries))
AreRows-length in_file starts n [] rows texts h = (ap length h.0, ap length h.1)
AreRows-length in_file starts n (Condition entry ∷ rest) rows texts h = AreRows-length in_file starts n rest rows texts h
AreRows-length in_file starts n (Item entry ∷ rest) rows texts h =
    let more = AreRows-length in_file _ (n + 1) rest h.2 h.3 h.5 in
    (omega (arith, ap length h.6, more.0), omega (arith, ap length h.7, more.1))

pub AreAllRows-length : (n : ℕ) (all : List Section) (rows : List Row) (texts : List Described) → AreAllRows n all rows texts
    → (length rows ≡ entries_in all) × (length texts ≡ entries_in all)
AreAllRows-length n [] rows texts h = (ap length h.0, ap length h.1)
AreAllRows-length n (section ∷ others) rows texts h =
    let first = AreRows-length section.in_file _ n section.entries h.0 h.1 h.4 in
    let more = AreAllRows-length (n + length h.0) others h.2 h.3 h.5 in
    (omega (arith, ap length h.6, length-append h.0 h.2, first.0, more.0), omega (arith, ap length h.7, length-append h.1 h.3, first.1, more.1))

pub length-file_sources : (n : ℕ) (files : List FileDescription) → length (file_sources n files) ≡ entries_in (map file_section files)
length-file_sources n [] = refl
length-file_sources n (file ∷ others) =
    length-append (map _ (item_entries file.records)) (file_sources (n + 1) others)
    ∙ omega (arith, length-map (item_entries file.records) (filed (Some n)), length-file_sources (n + 1) others)

pub length-sources_of : (d : Option DataDivision) → length (file_sources 0 (descriptions_of d) ++ map (λ entry. record { file = None; entry = entry }) (item_entries (working_storage_of d))) ≡ entries_in (data_sections d)
length-sources_of None = refl
length-sources_of (Some division) =
    length-append (file_sources 0 (or_none division.files)) _
    ∙ (omega (arith, length-file_sources 0 (or_none division.files), length-map (item_entries (or_none division.working_storage)) (filed None))
    ∙ sym (entries_in-append (map file_section (or_none division.files)) (storage_section (or_none division.working_storage) ∷ [])))

pub length-sources : (front : Front) → length (sources front) ≡ entries_in (sections front)
length-sources front = length-sources_of front.data

-- What the names of files, records, screens and paragraphs stand for.
use Rattle.std.specs.Prelude.{ℕ, ◌==◌, Bool, ◌&&◌, List, find, position, Option, Some, None, is_some, slice_get}
use Rattle.std.specs.List.{list_any}
use Rattle.cob_base.specs.declared.divisions.Front.{Front}
use Rattle.cob_base.specs.declared.divisions.FileDescription.{FileDescription}
use Rattle.cob_base.specs.declared.file_entries.FileEntry.{FileEntry}
use Rattle.cob_base.specs.declared.screen_entries.ScreenEntry.{ScreenEntry}
use Rattle.cob_base.specs.declared.paragraphs.Paragraph.{Paragraph}
use Rattle.cob_base.specs.declared.paragraphs.Program.{Program}
use Rattle.data_names.specs.Parts.{files, descriptions, screen_entries}
use Rattle.data_names.specs.Items.{DataItem}
use Rattle.data_names.specs.Spots.{Spot, spots, is_record}
use Rattle.data_names.specs.References.{same_name, is_called}
use Rattle.key_rules.specs.KeyPlaces.{description_of, same_number}
use Rattle.statement_parts.specs.declared.names.NameKind.{NameKind}
use Rattle.statement_parts.specs.declared.names.NameKind.TheVariants as kinds
use Rattle.statement_parts.specs.References.{Wanted}

-- ---- files and records

-- the file control entry of a name: the first
abbrev pub file_named : Front → List ℕ → Option FileEntry
file_named front name = find (λ file. same_name file.name name) (files front)

-- a record: an item of level 01 under a file description
abbrev pub is_level_record : Spot DataItem → Bool
is_level_record spot = spot.item.row.in_file && (spot.item.row.level == 1)

-- the record of a name: the first
abbrev pub record_named : List DataItem → List ℕ → Option (Spot DataItem)
record_named items name = find (λ spot. is_level_record spot && is_called name spot.item.text.name) (spots items)

abbrev pub file_of_description : Front → Option FileDescription → Option FileEntry
file_of_description front None = None
file_of_description front (Some description) = file_named front description.name

abbrev pub file_of_number : Front → Option ℕ → Option FileEntry
file_of_number front None = None
file_of_number front (Some number) = file_of_description front (slice_get (descriptions front) number)

abbrev pub file_of_record : Front → Option (Spot DataItem) → Option FileEntry
file_of_record front None = None
file_of_record front (Some spot) = file_of_number front spot.item.source.file

-- the record of a file: the first item under its description, of level 01
abbrev pub record_of_file : Front → List DataItem → FileEntry → Option (Spot DataItem)
record_of_file front items file =
    find (λ spot. same_number (description_of front file.name) spot.item.source.file && is_record spot.item) (spots items)

-- ---- screens and paragraphs

abbrev pub is_screen_of : List ℕ → ScreenEntry → Bool
is_screen_of name entry = (entry.level == 1) && is_called name entry.name

-- the number of the paragraph of a name, counted from 0: the first
abbrev pub paragraph_named : List Paragraph → List ℕ → Option ℕ
paragraph_named all name = position (λ paragraph. is_called name paragraph.name) all

-- ---- all of them

-- the name stands for what it is to stand for
abbrev pub is_known : Program → List DataItem → Wanted → Bool
is_known program items name = is_known_as name.kind name.name
  where
    is_known_as : NameKind → List ℕ → Bool
    is_known_as kinds.File name = is_some (file_named program.front name)
    is_known_as kinds.Record name = is_some (record_named items name)
    is_known_as kinds.Screen name = list_any (is_screen_of name) (screen_entries program.front)
    is_known_as kinds.Paragraph name = is_some (paragraph_named program.paragraphs name)

-- What levels and groups must keep, in reason 6.
use Rattle.std.specs.Prelude.{◌==◌, Bool, false, not, ◌&&◌, ◌||◌, List, [], ◌∷◌, ◌++◌, map, filter, take, is_some, if◌then◌else◌}
use Rattle.std.specs.List.{flat_map}
use Rattle.cob_base.specs.declared.line.Line.{Line}
use Rattle.cob_base.specs.declared.divisions.Front.{Front}
use Rattle.cob_base.specs.declared.data_entries.DataEntry.{DataEntry}
use Rattle.cob_base.specs.declared.data_entries.DataEntry.TheVariants.{Item, Condition}
use Rattle.data_layout.specs.Rows.{sections, strays, rank}
use Rattle.data_layout.specs.Faults.{level_fits, is_missing}
use Rattle.data_names.specs.Parts.{descriptions}
use Rattle.data_names.specs.Items.{DataItem}
use Rattle.data_names.specs.Spots.{Spot, rows_before}

-- A level that returns to no group or begins with neither 01 nor 77, level 77 on a group, OCCURS on level 01 or 77, PICTURE on a group,
-- and an elementary item without PICTURE.
abbrev pub has_bad_level : Spot DataItem → Bool
has_bad_level spot =
    let row = spot.item.row in
    not (level_fits (rows_before spot) row) || (row.group && (row.level == 77)) || (is_some row.occurs && (rank row.level == 1))
    || (row.group && not (is_missing row.spelled)) || (not row.group && is_missing row.spelled)

-- ---- under a file description stands one level-01 item with its members and level-88 entries

abbrev pub line_of_entry : DataEntry → Line
line_of_entry (Item entry) = entry.line
line_of_entry (Condition entry) = entry.line

abbrev pub is_record_entry : DataEntry → Bool
is_record_entry (Item entry) = entry.level == 1
is_record_entry (Condition entry) = false

-- after the record, an item of level 01 or 77 is no member of it
abbrev pub is_beside_record : DataEntry → Bool
is_beside_record (Item entry) = rank entry.level == 1
is_beside_record (Condition entry) = false

-- the first entry that has no place there
abbrev pub misplaced : List DataEntry → List Line
misplaced [] = []
misplaced (first ∷ rest) =
    map line_of_entry (take 1 (if is_record_entry first then filter is_beside_record rest else first ∷ []))

-- 88 entries after no item, and entries that have no place under their description
abbrev pub misplaced_entries : Front → List Line
misplaced_entries front = strays (sections front) ++ flat_map (λ file. misplaced file.records) (descriptions front)

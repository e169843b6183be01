-- Reason 5: what is past a limit.
use Rattle.std.specs.Prelude.{nat_lt, ◌==◌, Bool, false, not, ◌&&◌, ◌||◌, List, ◌++◌, map, filter, drop, Option, Some, None}
use Rattle.std.specs.List.{list_any}
use Rattle.cob_base.specs.declared.line.Line.{Line}
use Rattle.cob_base.specs.declared.divisions.Front.{Front}
use Rattle.cob_base.specs.declared.file_entries.FileEntry.{FileEntry}
use Rattle.data_layout.specs.Faults.{is_in_range, passes_storage, passes_record}
use Rattle.data_names.specs.Parts.{files}
use Rattle.data_names.specs.Items.{DataItem}
use Rattle.entry_clauses.specs.Spelled.{is_too_wide}
use Rattle.entry_clauses.specs.ScreenItems.{ScreenItem}
use Rattle.data_names.specs.Spots.{Spot, spots, rows_before, rows_after, is_sized, bytes_of}
use Rattle.data_names.specs.References.{found}
use Rattle.name_rules.specs.Mentions.{keys_of}

-- Past a limit are a too wide picture, an OCCURS number that is not 1 to 9,999, storage of more than 1,000,000 bytes with this item,
-- and a record of more than 512 bytes.
abbrev pub is_item_past_limit : Spot DataItem → Bool
is_item_past_limit spot =
    is_too_wide spot.item.row.spelled || not (is_in_range spot.item.row.occurs)
    || passes_storage (rows_before spot) spot.item.row || passes_record spot.item.row (rows_after spot)

-- a key has 1 to 64 bytes; without an item, or where its size is not known, it is not judged
abbrev pub is_key_past_limit : Option (Spot DataItem) → Bool
is_key_past_limit None = false
is_key_past_limit (Some spot) = is_sized spot && ((bytes_of spot == 0) || nat_lt 64 (bytes_of spot))

abbrev pub has_key_past_limit : List DataItem → FileEntry → Bool
has_key_past_limit items file = list_any (λ key. is_key_past_limit (found items key)) (keys_of file)

-- those of items and screens, of keys, and the file control entries after the 65,535th
abbrev pub past_limits : Front → List DataItem → List ScreenItem → List Line
past_limits front items screens =
    map (λ spot. spot.item.row.line) (filter is_item_past_limit (spots items))
    ++ map (λ item. item.row.line) (filter (λ item. is_too_wide item.row.spelled) screens)
    ++ map (λ file. file.line) (filter (has_key_past_limit items) (files front))
    ++ map (λ file. file.line) (drop 65535 (files front))

-- Reason 7: keys and where they lie.
use Rattle.std.specs.Prelude.{ℕ, ◌==◌, nat_lt, Bool, false, not, ◌&&◌, ◌||◌, List, [], ◌∷◌, length, map, filter, count_by, position, Option, Some, None, is_none, if◌then◌else◌}
use Rattle.std.specs.List.{list_any, filter_map}
use Rattle.cob_base.specs.declared.line.Line.{Line}
use Rattle.cob_base.specs.declared.divisions.Front.{Front}
use Rattle.cob_base.specs.declared.file_entries.FileEntry.{FileEntry}
use Rattle.cob_base.specs.declared.file_entries.FileClause.{FileClause}
use Rattle.data_layout.specs.Storage.{storage}
use Rattle.data_layout.specs.Faults.{has_size}
use Rattle.data_names.specs.Parts.{files, descriptions}
use Rattle.entry_clauses.specs.Clauses.{record_key, alternates}
use Rattle.data_names.specs.Items.{DataItem}
use Rattle.data_names.specs.Spots.{Spot, is_table, is_in_record, is_sized, rows_before, bytes_of}
use Rattle.data_names.specs.References.{same_name, found}
use Rattle.name_rules.specs.Mentions.{keys_of}

-- the number of a file's description, counted from 0: the first of its name
abbrev pub description_of : Front → List ℕ → Option ℕ
description_of front name = position (λ description. same_name name description.name) (descriptions front)

abbrev pub same_number : Option ℕ → Option ℕ → Bool
same_number None other = false
same_number (Some number) None = false
same_number (Some number) (Some other) = number == other

-- the item is the record under this description, or one of its members
abbrev pub is_of_record : Option ℕ → Spot DataItem → Bool
is_of_record description spot =
    same_number description spot.item.source.file && is_in_record spot

-- an elementary item whose picture has an S
abbrev pub is_signed_item : DataItem → Bool
is_signed_item item = not item.row.group && item.signed

-- a key is an unsigned item or a group of the file's record, without OCCURS in or above it
abbrev pub is_no_key : Option ℕ → Option (Spot DataItem) → Bool
is_no_key description None = false
is_no_key description (Some spot) = not (is_of_record description spot) || is_table spot || is_signed_item spot.item

-- an item under this description whose size is not known
abbrev pub is_unsized_under : Option ℕ → DataItem → Bool
is_unsized_under description item = same_number description item.source.file && not (has_size item.row)

-- the place of an item is known: there is no OCCURS in or above it, and every size in it and under the description before it is known
abbrev pub has_place : Option ℕ → Spot DataItem → Bool
has_place description spot = (not (is_table spot) && is_sized spot) && not (list_any (is_unsized_under description) spot.before)

-- a key that is judged for its place: an item of the file's record whose place is known
abbrev pub placed_key : Option ℕ → Option (Spot DataItem) → Option (Spot DataItem)
placed_key description None = None
placed_key description (Some spot) = if is_of_record description spot && has_place description spot then Some spot else None

-- Two items lie at one place where as many bytes stand before them and they have as many.
abbrev pub same_place : Spot DataItem → Spot DataItem → Bool
same_place spot other = (storage (rows_before spot) == storage (rows_before other)) && (bytes_of spot == bytes_of other)

abbrev pub has_twins : {A : Type 0} → (A → A → Bool) → List A → Bool
has_twins same [] = false
has_twins same (x ∷ xs) = list_any (same x) xs || has_twins same xs

-- some key of a file is none
abbrev pub has_no_key : List DataItem → Option ℕ → FileEntry → Bool
has_no_key items description file = list_any (λ key. is_no_key description (found items key)) (keys_of file)

-- two keys of a file whose places are known lie at one place
abbrev pub are_at_one_place : List DataItem → Option ℕ → FileEntry → Bool
are_at_one_place items description file = has_twins same_place (filter_map (λ key. placed_key description (found items key)) (keys_of file))

-- RECORD KEY is missing, there are more than three alternates, or more than one of them with duplicates
abbrev pub has_bad_clauses : List FileClause → Bool
has_bad_clauses clauses =
    is_none (record_key clauses) || nat_lt 3 (length (alternates clauses)) || nat_lt 1 (count_by (λ alternate. alternate.duplicates) (alternates clauses))

-- A clause is missing or one too many, a key is none, or two lie at one place.
abbrev pub has_bad_keys : Front → List DataItem → FileEntry → Bool
has_bad_keys front items file =
    let description = description_of front file.name in
    has_bad_clauses file.clauses || has_no_key items description file || are_at_one_place items description file

abbrev pub bad_key_places : Front → List DataItem → List Line
bad_key_places front items = map (λ file. file.line) (filter (has_bad_keys front items) (files front))

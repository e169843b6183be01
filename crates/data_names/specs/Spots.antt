-- Entries among others: the groups that an entry is in, its size, and its picture.
use Rattle.std.specs.Prelude.{ℕ, Bool, ◌&&◌, ◌||◌, ◌==◌, if◌then◌else◌, List, [], ◌∷◌, ◌++◌, map, filter, Option, Some, is_some}
use Rattle.std.specs.List.{list_any, list_all}
use Rattle.picture_rule.specs.Picture.{PictureValue, plain}
use Rattle.picture_rule.specs.declared.kind.PictureKind.TheVariants.{Group}
use Rattle.data_layout.specs.declared.row.Row.{Row}
use Rattle.data_layout.specs.Storage.{goes_on, members}
use Rattle.data_layout.specs.Faults.{has_size}
use Rattle.data_layout.specs.Layout.{size_of}
use Rattle.data_names.specs.Items.{DataItem}
use Rattle.data_names.specs.Clauses.{value_clause}

-- an entry with what stands before it and after it
pub record Spot (A : Type 0) : Type 0 where
  pub before : List A
  pub item : A
  pub rest : List A

abbrev pub spot_of : {A : Type 0} → List A → A → List A → Spot A
spot_of before item rest = record { before = before; item = item; rest = rest }

abbrev pub spots_after : {A : Type 0} → List A → List A → List (Spot A)
spots_after before [] = []
spots_after before (item ∷ rest) = spot_of before item rest ∷ spots_after (before ++ item ∷ []) rest

-- each entry of a list among the others
abbrev pub spots : {A : Type 0} → List A → List (Spot A)
spots items = spots_after [] items

-- The entries that are open after a list of entries: those in which every later one goes on. The last one always is.
abbrev pub open_after : {A : Type 0} → (A → Row) → List A → List A
open_after row [] = []
open_after row (item ∷ later) = if list_all (λ other. goes_on (row item) (row other)) later then item ∷ open_after row later else open_after row later

-- The groups that an entry is in, from the outside in: of the entries that are open before it, those in which it goes on.
abbrev pub around : {A : Type 0} → (A → Row) → List A → A → List A
around row before item = filter (λ group. goes_on (row group) (row item)) (open_after row before)

-- ---- data items

abbrev pub groups_of : Spot DataItem → List DataItem
groups_of spot = around (λ item. item.row) spot.before spot.item

abbrev pub rows_before : Spot DataItem → List Row
rows_before spot = map (λ item. item.row) spot.before

abbrev pub rows_after : Spot DataItem → List Row
rows_after spot = map (λ item. item.row) spot.rest

-- a group that the item is in has OCCURS
abbrev pub is_repeated : Spot DataItem → Bool
is_repeated spot = list_any (λ group. is_some group.row.occurs) (groups_of spot)

-- the item, or a group that it is in, has OCCURS
abbrev pub is_table : Spot DataItem → Bool
is_table spot = is_repeated spot || is_some spot.item.row.occurs

-- no size in it hangs on a text that is no picture
abbrev pub is_sized : Spot DataItem → Bool
is_sized spot = list_all has_size (spot.item.row ∷ members spot.item.row (rows_after spot))

-- the bytes of one occurrence
abbrev pub bytes_of : Spot DataItem → ℕ
bytes_of spot = size_of spot.item.row (rows_after spot)

-- the picture of an item: that of a group is its bytes; none where the entry's own is missing, refused or past its limits
abbrev pub picture_of_item : Spot DataItem → Option PictureValue
picture_of_item spot = if spot.item.row.group then Some (plain Group (bytes_of spot)) else spot.item.text.picture

-- whether an item has VALUE
abbrev pub has_value : DataItem → Bool
has_value item = is_some (value_clause item.source.entry.clauses)

-- a record: the first item under a file description, of level 01
abbrev pub is_record : DataItem → Bool
is_record item = item.row.starts && (item.row.level == 1)

-- the item is a record or one of its members
abbrev pub is_in_record : Spot DataItem → Bool
is_in_record spot = list_any is_record (groups_of spot) || is_record spot.item

-- a group that the item is in has VALUE
abbrev pub is_in_value : Spot DataItem → Bool
is_in_value spot = list_any has_value (groups_of spot)

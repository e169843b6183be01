-- What an item's surroundings say of it, as the code keeps it.
use Rattle.std.specs.Prelude.{◌≡◌, ℕ, Bool, not, ◌&&◌, ◌==◌, if◌then◌else◌, List, [], ◌∷◌, ◌++◌, map, count_by, reverse, None, option_map}
use Rattle.std.specs.List.{list_all, last_or}
use Rattle.data_layout.specs.declared.row.Row.{Row}
use Rattle.data_layout.specs.Storage.{storage, members, own_size}
use Rattle.data_layout.specs.Faults.{has_size, level_fits}
use Rattle.data_layout.specs.Walk.{counted}
use Rattle.data_names.specs.declared.facts.Facts.{Facts}
use Rattle.data_names.specs.Seen.{seen_name}
use Rattle.data_names.specs.Items.{DataItem}
use Rattle.data_names.specs.Spots.{Spot, spots, groups_of, rows_before, rows_after, is_repeated, is_table, is_sized, bytes_of, is_in_value, is_in_record}
use Rattle.data_names.specs.References.{names_around}

abbrev pub number_of : DataItem → ℕ
number_of item = item.row.number

-- the bytes of a row with its members by themselves, where it is of level 01 in the file section
abbrev pub record_bytes : Row → List Row → ℕ
record_bytes row rest = if row.in_file && (row.level == 1) then storage (row ∷ members row rest) else 0

-- an elementary item with bytes
abbrev pub has_bytes : Row → Bool
has_bytes row = not (own_size row == 0)

-- how many elementary items with bytes some rows have
abbrev pub count_with_bytes : List Row → ℕ
count_with_bytes rows = count_by has_bytes rows

-- how many elementary items with bytes an item has: a group its members, any other itself
abbrev pub count_inside : Row → List Row → ℕ
count_inside row rest = if row.group then count_with_bytes (members row rest) else count_with_bytes (row ∷ [])

pub record IsFacts (spot : Spot DataItem) (facts : Facts) : Type 0 where
  pub parent : facts.parent ≡ option_map number_of (last_or None (groups_of spot))
  pub groups : map seen_name facts.groups.items ≡ reverse (names_around spot)
  pub level_fits_is : facts.level_fits ≡ level_fits (rows_before spot) spot.item.row
  pub repeated : facts.repeated ≡ is_repeated spot
  pub table : facts.table ≡ is_table spot
  pub in_value : facts.in_value ≡ is_in_value spot
  pub in_record : facts.in_record ≡ is_in_record spot
  pub sized : facts.sized ≡ is_sized spot
  pub bytes : facts.bytes ≡ counted (bytes_of spot)
  pub before : facts.before ≡ counted (storage (rows_before spot))
  pub after : facts.after ≡ counted (storage (rows_before spot ++ spot.item.row ∷ []))
  pub with_bytes_before : facts.with_bytes_before ≡ count_with_bytes (rows_before spot)
  pub with_bytes : facts.with_bytes ≡ count_inside spot.item.row (rows_after spot)
  pub sized_so_far : facts.sized_so_far ≡ list_all has_size (rows_before spot ++ spot.item.row ∷ [])
  pub record_is : facts.record_bytes ≡ counted (record_bytes spot.item.row (rows_after spot))

-- the facts of entries, one by one
abbrev pub AreFactsOf : List (Spot DataItem) → List Facts → Type 0
AreFactsOf [] facts = facts ≡ []
AreFactsOf (spot ∷ others) [] = ⊥
AreFactsOf (spot ∷ others) (one ∷ facts) = IsFacts spot one × AreFactsOf others facts

-- the facts of each item
abbrev pub AreFacts : List DataItem → List Facts → Type 0
AreFacts items facts = AreFactsOf (spots items) facts

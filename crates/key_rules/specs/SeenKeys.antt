-- The places of keys as the code holds them.
use Rattle.std.specs.Prelude.{ℕ, ◌==◌, nat_le, Bool, true, not, ◌&&◌, length, Option, Some, None, option_map, if◌then◌else◌}
use Rattle.data_names.specs.Items.{DataItem}
use Rattle.data_names.specs.Spots.{Spot, is_table, is_sized, rows_before, rows_after}
use Rattle.data_names.specs.Facts.{count_with_bytes, count_inside}
use Rattle.key_rules.specs.KeyPlaces.{is_of_record}
use Rattle.key_rules.specs.declared.key_places.Span.{Span}

-- How many items with bytes stand before an item, and how many it has. Of two items of one list without OCCURS in or above them
-- both are the same exactly where the items lie at one place, however many bytes there are.
abbrev pub span_of : Spot DataItem → Span
span_of spot = record { before = count_with_bytes (rows_before spot); inside = count_inside spot.item.row (rows_after spot) }

-- no item before the one of this number is unsized, where the first that is has the other number
abbrev pub is_sized_before : Option ℕ → ℕ → Bool
is_sized_before None number = true
is_sized_before (Some first) number = nat_le number first

abbrev pub seen_place : Option ℕ → Spot DataItem → Bool
seen_place unsized_at spot = (not (is_table spot) && is_sized spot) && is_sized_before unsized_at (length spot.before)

-- a key that is judged for its place, where the first item under its description whose size is not known has this number
abbrev pub seen_key : Option ℕ → Option ℕ → Option (Spot DataItem) → Option (Spot DataItem)
seen_key description unsized_at None = None
seen_key description unsized_at (Some spot) = if is_of_record description spot && seen_place unsized_at spot then Some spot else None

abbrev pub span_of_key : Option ℕ → Option ℕ → Option (Spot DataItem) → Option Span
span_of_key description unsized_at spot = option_map span_of (seen_key description unsized_at spot)

abbrev pub same_span : Span → Span → Bool
same_span span other = (span.before == other.before) && (span.inside == other.inside)

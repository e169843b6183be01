-- The numbers of a table's items are within its items.
use Rattle.std.proofs.Common.{◌≡◌, ◌<◌, arith, ℕ, [], length, Some}
use Rattle.std.specs.Prelude.{slice_get}
use Rattle.std.proofs.lemmas.List.{length-map}
use Rattle.std.proofs.lemmas.Option.{slice_get_within}
use Rattle.data_names.specs.declared.table.Table.{Table}
use Rattle.data_names.specs.Items.{DataItem}
use Rattle.data_names.specs.Spots.{Spot, spots}
use Rattle.data_names.specs.Seen.{seen_item}
use Rattle.data_names.specs.Table.{items_of}
use Rattle.procedure_names.proofs.KnownConditions.{length-spots_after}

pub within_table : (table : Table) (at : ℕ) (spot : Spot DataItem) → slice_get (spots (items_of table)) at ≡ Some spot → at < length table.items.now
within_table table at spot e =
    omega (arith, slice_get_within (spots (items_of table)) at spot e, length-spots_after [] (items_of table), length-map table.items.now seen_item)

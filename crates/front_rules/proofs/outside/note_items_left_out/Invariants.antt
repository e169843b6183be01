-- The faults of those so far.
use Rattle.std.proofs.Common.{◌≡◌, ◌++◌, take, map}
use Rattle.std.specs.Prelude.{filter}
use Rattle.data_names.specs.Spots.{spots}
use Rattle.data_names.specs.Table.{items_of}
use Rattle.front_rules.specs.Outside.{is_item_outside}
use Rattle.name_rules.specs.Faults.{faults_at}
use Rattle.front_rules.proofs.outside.note_items_left_out.Given as goal

abbrev pub invariant-loop-at : goal.invariant-loop-at
invariant-loop-at l =
    l.faults.found.items ≡ l.initial.faults.found.items ++ faults_at 10 (map (λ spot. spot.item.row.line) (filter is_item_outside (take l.at (spots (items_of l.table)))))

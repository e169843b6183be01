-- Those that are left give what all of them give.
use Rattle.std.proofs.Common.{◌≡◌, drop}
use Rattle.std.specs.List.{list_any}
use Rattle.data_names.specs.Table.{items_of}
use Rattle.value_rules.specs.Kinds as k
use Rattle.value_rules.proofs.values.has_no_result.Given as goal

abbrev pub invariant-loop-item : goal.invariant-loop-item
invariant-loop-item l = list_any (k.is_no_result (items_of l.table)) (drop l.item-index l.items) ≡ list_any (k.is_no_result (items_of l.table)) l.items

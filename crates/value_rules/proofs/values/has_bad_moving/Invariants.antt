-- Those that are left give what all of them give.
use Rattle.std.proofs.Common.{◌≡◌, drop, map}
use Rattle.std.specs.List.{list_any}
use Rattle.data_names.specs.Table.{items_of}
use Rattle.statement_parts.specs.Seen.{seen_moving}
use Rattle.value_rules.specs.Kinds as k
use Rattle.value_rules.proofs.values.has_bad_moving.Given as goal

abbrev pub invariant-loop-one : goal.invariant-loop-one
invariant-loop-one l = list_any (k.is_bad_moving (items_of l.table)) (map seen_moving (drop l.one-index l.moves)) ≡ list_any (k.is_bad_moving (items_of l.table)) (map seen_moving l.moves)

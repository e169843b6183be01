-- Those that are left give what all of them give.
use Rattle.std.proofs.Common.{◌≡◌, drop}
use Rattle.std.specs.List.{list_any}
use Rattle.data_names.specs.Table.{items_of}
use Rattle.statement_parts.specs.Seen.{seen_all}
use Rattle.value_rules.specs.Kinds as k
use Rattle.value_rules.proofs.values.has_no_operand.Given as goal

abbrev pub invariant-loop-operand : goal.invariant-loop-operand
invariant-loop-operand l = list_any (k.is_no_operand (items_of l.table)) (seen_all (drop l.operand-index l.operands)) ≡ list_any (k.is_no_operand (items_of l.table)) (seen_all l.operands)

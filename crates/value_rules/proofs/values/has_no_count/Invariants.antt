-- Those that are left give what all of them give.
use Rattle.std.proofs.Common.{◌≡◌, drop}
use Rattle.std.specs.List.{list_any}
use Rattle.data_names.specs.Table.{items_of}
use Rattle.statement_parts.specs.Seen.{seen_all}
use Rattle.value_rules.specs.Kinds as k
use Rattle.value_rules.proofs.values.has_no_count.Given as goal

abbrev pub invariant-loop-count : goal.invariant-loop-count
invariant-loop-count l = list_any (k.is_no_count (items_of l.table)) (seen_all (drop l.count-index l.counts)) ≡ list_any (k.is_no_count (items_of l.table)) (seen_all l.counts)

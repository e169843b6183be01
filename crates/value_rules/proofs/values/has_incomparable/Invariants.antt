-- Those that are left give what all of them give.
use Rattle.std.proofs.Common.{◌≡◌, drop, map}
use Rattle.std.specs.List.{list_any}
use Rattle.data_names.specs.Table.{items_of}
use Rattle.statement_parts.specs.Seen.{seen_comparing}
use Rattle.value_rules.specs.Kinds as k
use Rattle.value_rules.proofs.values.has_incomparable.Given as goal

abbrev pub invariant-loop-one : goal.invariant-loop-one
invariant-loop-one l = list_any (k.compares_badly (items_of l.table)) (map seen_comparing (drop l.one-index l.comparisons)) ≡ list_any (k.compares_badly (items_of l.table)) (map seen_comparing l.comparisons)

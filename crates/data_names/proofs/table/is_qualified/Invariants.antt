-- The qualifiers still to come must be among the groups still to come.
use Rattle.std.proofs.Common.{◌≡◌, drop, map}
use Rattle.data_names.specs.Seen.{seen_name}
use Rattle.data_names.specs.References.{is_qualified}
use Rattle.data_names.proofs.table.is_qualified.Given as goal

abbrev pub invariant-loop-group : goal.invariant-loop-group
invariant-loop-group l = is_qualified l.qualifiers (map seen_name (drop l.group-index l.groups)) ≡ is_qualified l.initial.qualifiers (map seen_name l.groups)

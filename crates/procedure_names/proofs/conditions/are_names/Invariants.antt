-- The names that are left must be among those still to come.
use Rattle.std.proofs.Common.{◌≡◌, drop, map}
use Rattle.data_names.specs.Seen.{seen_name}
use Rattle.data_names.specs.References.{is_qualified}
use Rattle.procedure_names.proofs.conditions.are_names.Given as goal

abbrev pub invariant-loop-group : goal.invariant-loop-group
invariant-loop-group l = is_qualified l.left (map seen_name (drop l.group-index l.groups)) ≡ is_qualified l.qualifiers (map seen_name l.groups)

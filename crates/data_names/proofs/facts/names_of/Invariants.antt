-- The names so far.
use Rattle.std.proofs.Common.{◌≡◌, take, map}
use Rattle.data_names.proofs.facts.names_of.Given as goal

abbrev pub invariant-loop-group : goal.invariant-loop-group
invariant-loop-group l = l.names.items ≡ map (λ group. group.name) (take l.group-index l.groups)

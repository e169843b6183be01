-- The simple conditions so far.
use Rattle.std.proofs.Common.{◌≡◌, ◌++◌, take}
use Rattle.std.specs.List.{flat_map}
use Rattle.statement_parts.specs.Leaves.{simple_in}
use Rattle.statement_parts.specs.Seen.{seen_all}
use Rattle.statement_parts.proofs.leaves.+conditions.Given as goal

abbrev pub invariant-add_each-loop-one : goal.invariant-add_each-loop-one
invariant-add_each-loop-one l = seen_all l.all.items ≡ seen_all l.initial.all.items ++ flat_map simple_in (take l.one-index l.conditions)

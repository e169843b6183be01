-- The references so far.
use Rattle.std.proofs.Common.{◌≡◌, ◌++◌, take}
use Rattle.data_names.specs.Seen.{seen_references}
use Rattle.procedure_names.proofs.condition_names.add_conditions.Given as goal

abbrev pub invariant-loop-condition : goal.invariant-loop-condition
invariant-loop-condition l = seen_references l.all.items ≡ seen_references l.initial.all.items ++ seen_references (take l.condition-index l.condition-items)

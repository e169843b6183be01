-- Those of the statements so far.
use Rattle.std.proofs.Common.{◌≡◌, take}
use Rattle.std.specs.List.{flat_map}
use Rattle.data_names.specs.Seen.{seen_references}
use Rattle.statement_parts.specs.References.{conditions_of}
use Rattle.statement_parts.specs.Seen.{seen_all}
use Rattle.procedure_names.proofs.condition_names.condition_references.Given as goal

abbrev pub invariant-loop-one : goal.invariant-loop-one
invariant-loop-one l = seen_references l.all.items ≡ flat_map (λ one. conditions_of one.item) (seen_all (take l.one-index l.one-items))

-- The references so far.
use Rattle.std.proofs.Common.{◌≡◌, ◌++◌, take}
use Rattle.data_names.specs.Seen.{seen_references}
use Rattle.cobol_checker.proofs.references.add_all.Given as goal

abbrev pub invariant-loop-reference : goal.invariant-loop-reference
invariant-loop-reference l = seen_references l.all.items ≡ seen_references l.initial.all.items ++ seen_references (take l.reference-index l.references)

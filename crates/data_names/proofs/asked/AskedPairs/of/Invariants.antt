-- What the references so far ask for.
use Rattle.std.proofs.Common.{take}
use Rattle.data_names.specs.Asked.{any_asks, AreAskedBy}
use Rattle.data_names.specs.Seen.{seen_references}
use Rattle.data_names.proofs.asked.AskedPairs.of.Given as goal

abbrev pub invariant-loop-reference : goal.invariant-loop-reference
invariant-loop-reference l = AreAskedBy l.asked (any_asks l.names (seen_references (take l.reference-index l.references)))

-- The files so far.
use Rattle.std.proofs.Common.{take}
use Rattle.procedure_rules.specs.KnownFiles.{AreKnownFiles}
use Rattle.procedure_names.specs.Scoped.{items_in}
use Rattle.procedure_rules.proofs.known_files.known_files.Given as goal

abbrev pub invariant-loop-entry : goal.invariant-loop-entry
invariant-loop-entry l = AreKnownFiles (items_in l.scope) (take l.entry-index l.entries) l.known.items

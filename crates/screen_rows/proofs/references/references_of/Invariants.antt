-- Those of the entries so far.
use Rattle.std.proofs.Common.{◌≡◌, take}
use Rattle.std.specs.List.{flat_map}
use Rattle.data_names.specs.Seen.{seen_references}
use Rattle.screen_rows.specs.Clauses.{references_of}
use Rattle.screen_rows.proofs.references.references_of.Given as goal

abbrev pub invariant-loop-entry : goal.invariant-loop-entry
invariant-loop-entry l = seen_references l.all.items ≡ flat_map references_of (take l.entry-index l.entries)

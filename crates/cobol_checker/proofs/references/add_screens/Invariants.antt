-- Those of the entries so far.
use Rattle.std.proofs.Common.{◌≡◌, ◌++◌, take}
use Rattle.std.specs.List.{flat_map}
use Rattle.data_names.specs.Seen.{seen_references}
use Rattle.name_rules.specs.Mentions.{references_of_screen}
use Rattle.cobol_checker.proofs.references.add_screens.Given as goal

abbrev pub invariant-loop-entry : goal.invariant-loop-entry
invariant-loop-entry l = seen_references l.all.items ≡ seen_references l.initial.all.items ++ flat_map references_of_screen (take l.entry-index l.entries)

-- Those of the statements so far.
use Rattle.std.proofs.Common.{◌≡◌, ◌++◌, take}
use Rattle.std.specs.List.{flat_map}
use Rattle.data_names.specs.Seen.{seen_references}
use Rattle.statement_parts.specs.Seen.{seen_all}
use Rattle.cobol_checker.specs.References.{references_of_statement}
use Rattle.cobol_checker.proofs.references.add_paragraphs.Given as goal

abbrev pub invariant-loop-one : goal.invariant-loop-one
invariant-loop-one l = seen_references l.all.items ≡ seen_references l.initial.all.items ++ flat_map references_of_statement (seen_all (take l.one-index l.one-items))

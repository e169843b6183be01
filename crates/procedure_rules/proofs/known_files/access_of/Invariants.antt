-- The clauses still to come give what all of them give.
use Rattle.std.proofs.Common.{◌≡◌, drop}
use Rattle.data_names.specs.Clauses.{first_of}
use Rattle.procedure_rules.specs.Reading.{access_named}
use Rattle.procedure_rules.proofs.known_files.access_of.Given as goal

abbrev pub invariant-loop-clause : goal.invariant-loop-clause
invariant-loop-clause l = first_of access_named (drop l.clause-index l.file.clauses) ≡ first_of access_named l.file.clauses

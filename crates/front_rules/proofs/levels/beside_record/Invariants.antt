-- What was found so far.
use Rattle.std.proofs.Common.{◌≡◌, take, drop, map}
use Rattle.std.specs.Prelude.{filter}
use Rattle.front_rules.specs.Levels.{line_of_entry, is_beside_record}
use Rattle.front_rules.proofs.levels.beside_record.Given as goal

abbrev pub invariant-loop-entry : goal.invariant-loop-entry
invariant-loop-entry l = map line_of_entry (take 1 (filter is_beside_record (drop l.entry-index l.entries))) ≡ map line_of_entry (take 1 (filter is_beside_record l.entries))

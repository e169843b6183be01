-- The names so far.
use Rattle.std.proofs.Common.{◌≡◌, take}
use Rattle.std.specs.List.{flat_map}
use Rattle.statement_parts.specs.References.{name_of_test}
use Rattle.statement_parts.specs.Seen.{seen_all}
use Rattle.statement_parts.proofs.references.conditions_of.Given as goal

abbrev pub invariant-loop-test : goal.invariant-loop-test
invariant-loop-test l = seen_all l.all.items ≡ flat_map name_of_test (seen_all (take l.test-index l.test-items))

-- The items so far.
use Rattle.std.proofs.Common.{◌≡◌, ◌++◌, take}
use Rattle.std.specs.List.{flat_map}
use Rattle.statement_parts.specs.References.{items_of_test}
use Rattle.statement_parts.specs.Seen.{seen_all}
use Rattle.statement_parts.proofs.references.add_tests.Given as goal

abbrev pub invariant-loop-test : goal.invariant-loop-test
invariant-loop-test l = seen_all l.all.items ≡ seen_all l.initial.all.items ++ flat_map items_of_test (seen_all (take l.test-index l.tests))

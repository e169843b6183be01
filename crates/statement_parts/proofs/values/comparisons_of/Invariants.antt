-- The relations so far.
use Rattle.std.proofs.Common.{◌≡◌, take, map}
use Rattle.std.specs.List.{flat_map}
use Rattle.statement_parts.specs.Values.{comparison_of_test}
use Rattle.statement_parts.specs.Seen.{seen_all, seen_comparing}
use Rattle.statement_parts.proofs.values.comparisons_of.Given as goal

abbrev pub invariant-loop-test : goal.invariant-loop-test
invariant-loop-test l = map seen_comparing l.all.items ≡ flat_map comparison_of_test (seen_all (take l.test-index l.test-items))

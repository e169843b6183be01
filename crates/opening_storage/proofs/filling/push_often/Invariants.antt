use Rattle.std.proofs.Common.{◌≡◌, ◌++◌}
use Rattle.opening_storage.specs.Filling.{often}
use Rattle.opening_storage.proofs.filling.push_often.Given as goal

abbrev pub invariant-loop : goal.invariant-loop
invariant-loop l = l.bytes.items ≡ l.initial.bytes.items ++ often l.counter l.more

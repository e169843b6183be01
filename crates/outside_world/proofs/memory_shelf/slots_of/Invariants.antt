use Rattle.std.proofs.Common.{◌≡◌}
use Rattle.outside_world.proofs.memory_shelf.slots_of.Given as goal

abbrev pub invariant-loop-held : goal.invariant-loop-held
invariant-loop-held l = l.slots.items ≡ l.yielded

use Rattle.std.proofs.Common.{◌≡◌, drop}
use Rattle.outside_world.specs.Stored.{lookup}
use Rattle.outside_world.proofs.memory_shelf.held_bytes.Given as goal

abbrev pub invariant-loop-slot : goal.invariant-loop-slot
invariant-loop-slot l = lookup l.name (drop l.slot-index l.slots) ≡ lookup l.name l.slots

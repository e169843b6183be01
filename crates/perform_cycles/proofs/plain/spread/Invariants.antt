use Rattle.std.proofs.Common.{◌≡◌, ◌↔◌, ℕ, ◌<◌, length}
use Rattle.std.specs.Prelude.{◌⊎◌}
use Rattle.perform_cycles.specs.Plain.{IsMarked, IsLedTo}
use Rattle.perform_cycles.proofs.plain.spread.Given as goal

abbrev pub invariant-loop-there : goal.invariant-loop-there
invariant-loop-there l = (length l.new.items ≡ l.there) × ((k : ℕ) → k < l.there → IsMarked l.new.items k ↔ (IsMarked l.marks k ⊎ IsLedTo l.arrows l.marks k))

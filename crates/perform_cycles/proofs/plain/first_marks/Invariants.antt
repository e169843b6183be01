use Rattle.std.proofs.Common.{◌≡◌, ◌↔◌, ℕ, ◌<◌, length}
use Rattle.perform_cycles.specs.Cycles.{IsStep}
use Rattle.perform_cycles.specs.Plain.{IsMarked}
use Rattle.perform_cycles.proofs.plain.first_marks.Given as goal

abbrev pub invariant-loop-there : goal.invariant-loop-there
invariant-loop-there l = (length l.marks.items ≡ l.there) × ((k : ℕ) → k < l.there → IsMarked l.marks.items k ↔ IsStep l.arrows l.here k)

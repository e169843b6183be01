use Rattle.std.proofs.Common.{◌≡◌, ◌↔◌, ℕ, ◌<◌, length, slice_index_or, false}
use Rattle.std.specs.Prelude.{IsTrue}
use Rattle.perform_cycles.specs.Cycles.{IsOnCycle}
use Rattle.perform_cycles.proofs.plain.on_cycles_one_by_one.Given as goal

abbrev pub invariant-loop-paragraph : goal.invariant-loop-paragraph
invariant-loop-paragraph l = (length l.marks.items ≡ l.paragraph) × ((k : ℕ) → k < l.paragraph → IsTrue (slice_index_or l.marks.items k false) ↔ IsOnCycle l.arrows k)

use Rattle.std.proofs.Common.{◌≡◌, not}
use Rattle.std.specs.Prelude.{count_by}
use Rattle.perform_cycles.specs.Plain.{AreReached}
use Rattle.perform_cycles.proofs.plain.leads_back.Given as goal

abbrev pub invariant-loop-marks : goal.invariant-loop-marks
invariant-loop-marks l = AreReached l.fn.count l.fn.arrows l.fn.paragraph l.marks.items × (l.unmarked ≡ count_by not l.marks.items)

abbrev pub decreases-loop-marks : goal.decreases-loop-marks
decreases-loop-marks l = l.unmarked

use Rattle.std.proofs.Common.{ℕ, ◌<◌}
use Rattle.perform_cycles.specs.Finding.{IsShown}
use Rattle.perform_cycles.proofs.finding.are_shown.Given as goal

abbrev pub invariant-loop-paragraph : goal.invariant-loop-paragraph
invariant-loop-paragraph l = (k : ℕ) → k < l.paragraph → IsShown l.arrows l.places k

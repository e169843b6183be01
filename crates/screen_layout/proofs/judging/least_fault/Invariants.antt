use Rattle.screen_layout.proofs.JudgedScreens.{Judged}
use Rattle.screen_layout.proofs.judging.least_fault.Given as goal

abbrev pub invariant-loop-row : goal.invariant-loop-row
invariant-loop-row l = Judged l.rows l.row-index l.walk l.best

use Rattle.std.proofs.Common.{◌≡◌, ◌++◌, List, take, drop}
use Rattle.data_layout.specs.declared.fault.LayoutFault.{LayoutFault}
use Rattle.data_layout.specs.Faults.{layout_faults, faults_after}
use Rattle.data_layout.specs.Judge.{IsJudged}
use Rattle.data_layout.proofs.judging.least_fault.Given as goal

-- `found` has the faults of the rows so far; those of the rest come after it.
abbrev pub invariant-loop-at : goal.invariant-loop-at
invariant-loop-at l = (found : List LayoutFault) × IsJudged (take l.at l.rows) found l.judge × (layout_faults l.strays l.rows ≡ found ++ faults_after (take l.at l.rows) (drop l.at l.rows))

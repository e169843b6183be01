-- The least of the faults so far.
use Rattle.std.proofs.Common.{take}
use Rattle.name_rules.specs.Faults.{IsBest}
use Rattle.name_rules.proofs.faults.least.Given as goal

abbrev pub invariant-loop-fault : goal.invariant-loop-fault
invariant-loop-fault l = IsBest (take l.fault-index l.faults) l.best

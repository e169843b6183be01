use Rattle.std.proofs.Common.{sym, subst, take, List}
use Rattle.std.proofs.lemmas.List.{take_more}
use Rattle.name_rules.specs.declared.fault.Fault.{Fault}
use Rattle.name_rules.specs.Faults.{IsBest}
use Rattle.name_rules.proofs.faults.least.Goals as goal

pub loop-fault-preserved : goal.loop-fault-preserved
loop-fault-preserved c =
    subst (λ (all : List Fault). IsBest all c.lesser-best.result) (sym (take_more c.args.faults.now c.loop-fault.fault-index _ c.loop-fault-test.true))
    (c.lesser-best.ensures (take c.loop-fault.fault-index c.args.faults.now) c.loop-fault.invariant)

use Rattle.std.proofs.Common.{sym, arith, ◌-◌, ◌+◌, length}
use Rattle.screen_names.proofs.Chains.{single_more}
use Rattle.screen_names.proofs.matching.is_single_item.Goals as goal

pub loop-step-preserved : goal.loop-step-preserved
loop-step-preserved c = rw c.wide-next.ensures
    (single_more (length c.args.items.now - c.loop-step._step) (length c.args.items.now - (c.loop-step._step + 1)) c.args.items.now c.loop-step.next c.in-Some.item.now _ (omega arith) (sym c.in-Some.ensures) c.if-item-ne0.false c.loop-step.invariant)

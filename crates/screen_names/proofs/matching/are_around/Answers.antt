use Rattle.std.proofs.Common.{◌∙◌, ap, sym, arith, ◌-◌, ◌+◌, []}
use Rattle.std.specs.Option.{option_copied}
use Rattle.screen_names.specs.Names.{is_named}
use Rattle.screen_names.proofs.Chains.{qualifiers_more, qualifiers_none, qualifiers_end}
use Rattle.screen_names.proofs.matching.are_around.Goals as goal

pub returns-in_default : goal.returns-in_default
returns-in_default c = qualifiers_none c.args.qualifiers.now c.loop-step.found [] (c.args.most - c.loop-step._step) (c.args.most - (c.loop-step._step + 1)) c.args.items.now c.loop-step.next _
    c.if-found-qualifiers.false (omega arith) (sym c.item_of.ensures ∙ ap option_copied c.in_default.is) c.loop-step.invariant

pub loop-step-preserved : goal.loop-step-preserved
loop-step-preserved c = rw (c.past-found.ensures, c.wide-next-in-loop-step.ensures)
    (qualifiers_more c.args.qualifiers.now c.loop-step.found c.index-qualifiers-found.result (c.args.most - c.loop-step._step) (c.args.most - (c.loop-step._step + 1)) c.args.items.now c.loop-step.next c.in-Some.group.now c.has_name.result _
    c.if-found-qualifiers.false (omega arith) (sym c.in-Some.ensures) (c.has_name.ensures ∙ ap (is_named c.in-Some.group.now.name) (c.as_bytes.ensures ∙ c.index-qualifiers-found.is)) c.loop-step.invariant)

pub returns : goal.returns
returns c = qualifiers_end c.args.qualifiers.now c.loop-step.found (c.args.most - c.loop-step._step) c.args.items.now c.loop-step.next _ (omega arith) c.loop-step.invariant

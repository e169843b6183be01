use Rattle.std.proofs.Common.{get_or, ap, sym, ◌∙◌, arith}
use Rattle.std.specs.Ordering.{nat_cmp}
use Rattle.cob_value.proofs.Ordered.{differs}
use Rattle.cob_value.proofs.Compared.{texts_same, texts_differ}
use Rattle.cob_value.proofs.texts.compare_texts.Goals as goal

pub returns-then-ne : goal.returns-then-ne
returns-then-ne c =
    texts_differ c.args.x.now c.args.y.now c.loop-i.i _ (omega (arith, c.loop-i-test.true, c.max-i-end.ensures)) c.loop-i.invariant
    (c.cmp-order.ensures ∙ ap (λ a. nat_cmp a c.byte_or_space-in-loop-i.result) c.byte_or_space.ensures ∙ ap (λ b. nat_cmp (get_or c.args.x.now c.loop-i.i 32) b) c.byte_or_space-in-loop-i.ensures)
    (differs _ (sym c.ne.ensures ∙ c.if-ne.true))

pub returns : goal.returns
returns c = texts_same c.args.x.now c.args.y.now c.loop-i.i (omega (arith, c.loop-i-test.false, c.max-i-end.ensures)) c.loop-i.invariant

use Rattle.std.proofs.Common.{sym, ◌∙◌}
use Rattle.cob_value.proofs.Ordered.{differs}
use Rattle.cob_value.proofs.Compared.{repeated_same, repeated_differ}
use Rattle.cob_value.proofs.texts.compare_with_byte.Goals as goal

pub returns-then-ne : goal.returns-then-ne
returns-then-ne c =
    repeated_differ c.args.bytes.now c.args.byte c.loop-each.each-index _ c.loop-each-test.true c.loop-each.invariant c.cmp-order.ensures (differs _ (sym c.ne.ensures ∙ c.if-ne.true))

pub returns : goal.returns
returns c = repeated_same c.args.bytes.now c.args.byte c.loop-each.each-index c.loop-each-test.false c.loop-each.invariant

use Rattle.std.proofs.Common.{arith}
use Rattle.cob_value.proofs.Padding.{is_fitted}
use Rattle.cob_value.proofs.texts.fit.Goals as goal

pub returns : goal.returns
returns c = is_fitted _ c.args.bytes.now c.loop-i.out c.loop-i.auto.out (λ k h. c.loop-i.invariant k (omega (arith, c.loop-i-test.false)))

use Rattle.std.proofs.Common.{arith}
use Rattle.std.proofs.lemmas.List.FromFn.{fill_by_all}
use Rattle.picture_rule.proofs.editing.fill_all.Goals as goal

pub returns : goal.returns
returns c = fill_by_all (λ _. c.args.byte) c.loop-place.out _ 0 c.loop-place.auto.out (λ k h. c.loop-place.invariant k (omega arith))

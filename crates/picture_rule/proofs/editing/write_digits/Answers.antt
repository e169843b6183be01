use Rattle.std.proofs.Common.{◌+◌, arith, ◌∙◌}
use Rattle.std.proofs.lemmas.List.FromFn.{fill_by_all}
use Rattle.picture_rule.specs.Editing.{digit_at, raised}
use Rattle.picture_rule.proofs.editing.write_digits.Goals as goal

pub returns : goal.returns
returns c = fill_by_all (λ k. digit_at (c.args.digits) c.args.units k + raised (c.args.digits) c.args.negative k) c.loop-k.out _ 0 (c.loop-k.auto.out ∙ c.requires.size) (λ k h. c.loop-k.invariant k (omega arith))

use Rattle.picture_rule.proofs.Places.{tens}
use Rattle.picture_rule.proofs.editing.without_digits.Goals as goal

pub nonzero_div-result : goal.nonzero_div-result
nonzero_div-result c = rw c.pow.ensures (tens c.args.digits)

use Rattle.cob_value.proofs.Items.{Copied}
use Rattle.cob_value.proofs.values.item_digits.Given as goal

abbrev pub invariant-loop-k : goal.invariant-loop-k
invariant-loop-k l = Copied l.bytes l.digits l.first l.sign_inside l.count l.k

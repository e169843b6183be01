use Rattle.picture_rule.proofs.Places.{Filled}
use Rattle.picture_rule.proofs.editing.edit_places.Given as goal

abbrev pub invariant-loop-i : goal.invariant-loop-i
invariant-loop-i l = Filled l.marks l.out l.units l.negative l.i l.before l.nines

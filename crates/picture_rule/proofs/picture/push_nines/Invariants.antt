use Rattle.std.proofs.Common.{◌≡◌, ◌++◌, replicate}
use Rattle.picture_rule.proofs.picture.push_nines.Given as goal

abbrev pub invariant-loop : goal.invariant-loop
invariant-loop l = l.marks.items ≡ l.fn.marks.items ++ replicate l.counter 57

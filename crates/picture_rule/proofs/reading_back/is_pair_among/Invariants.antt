use Rattle.std.proofs.Common.{◌≡◌, length}
use Rattle.picture_rule.specs.Editing.{has_pair}
use Rattle.picture_rule.proofs.reading_back.is_pair_among.Given as goal

abbrev pub invariant-loop-rest : goal.invariant-loop-rest
invariant-loop-rest l = has_pair l.first l.second l.bytes ≡ has_pair l.first l.second l.rest

abbrev pub decreases-loop-rest : goal.decreases-loop-rest
decreases-loop-rest l = length l.rest

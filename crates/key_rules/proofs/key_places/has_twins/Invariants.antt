-- Those still to come decide.
use Rattle.std.proofs.Common.{◌≡◌, length}
use Rattle.key_rules.specs.KeyPlaces.{has_twins}
use Rattle.key_rules.specs.SeenKeys.{same_span}
use Rattle.key_rules.proofs.key_places.has_twins.Given as goal

abbrev pub invariant-loop-rest : goal.invariant-loop-rest
invariant-loop-rest l = has_twins same_span l.rest ≡ has_twins same_span l.spans

abbrev pub decreases-loop-rest : goal.decreases-loop-rest
decreases-loop-rest l = length l.rest

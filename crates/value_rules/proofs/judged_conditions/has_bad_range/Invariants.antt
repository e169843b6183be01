-- Those that are left give what all of them give.
use Rattle.std.proofs.Common.{◌≡◌, drop}
use Rattle.std.specs.List.{list_any}
use Rattle.value_rules.specs.Kinds as k
use Rattle.value_rules.specs.SeenSides.{IsSide}
use Rattle.value_rules.proofs.judged_conditions.has_bad_range.Given as goal

abbrev pub invariant-loop-range : goal.invariant-loop-range
invariant-loop-range l = (a : k.Side) → IsSide a l.item → list_any (k.is_bad_range a) (drop l.range-index l.ranges) ≡ list_any (k.is_bad_range a) l.ranges

-- The qualifiers that are left stand around what is left exactly where all do.
use Rattle.std.proofs.Common.{◌≡◌, ◌-◌, drop}
use Rattle.data_layout.specs.Occurrences.{around}
use Rattle.screen_names.specs.Names.{are_qualifiers}
use Rattle.screen_names.proofs.matching.are_around.Given as goal

abbrev pub invariant-loop-step : goal.invariant-loop-step
invariant-loop-step l = are_qualifiers (drop l.found l.qualifiers) (around (l.most - l._step) l.items l.next) ≡ are_qualifiers l.qualifiers (around l.most l.items l.fn.parent)

-- What is left has no OCCURS exactly where all have none.
use Rattle.std.proofs.Common.{◌≡◌, ◌-◌, ◌==◌, length, Some}
use Rattle.std.specs.List.{list_all}
use Rattle.data_layout.specs.Occurrences.{around}
use Rattle.screen_names.proofs.matching.is_single_item.Given as goal

abbrev pub invariant-loop-step : goal.invariant-loop-step
invariant-loop-step l = list_all (λ item. item.occurs == 0) (around (length l.items - l._step) l.items l.next) ≡ list_all (λ item. item.occurs == 0) (around (length l.items) l.items (Some l.number))

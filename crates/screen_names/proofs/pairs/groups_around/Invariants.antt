-- With the names of the groups that are left these are the names of all.
use Rattle.std.proofs.Common.{◌≡◌, ◌-◌, ◌++◌, map}
use Rattle.data_layout.specs.Occurrences.{around}
use Rattle.data_names.specs.Seen.{seen_name}
use Rattle.screen_names.specs.NamePairs.{group_names}
use Rattle.screen_names.proofs.pairs.groups_around.Given as goal

abbrev pub invariant-loop-step : goal.invariant-loop-step
invariant-loop-step l = map seen_name l.groups.items ++ group_names (around (l.most - l._step) l.items l.next) ≡ group_names (around l.most l.items l.fn.parent)

-- The faults of those so far.
use Rattle.std.proofs.Common.{◌≡◌, ◌++◌, take, map}
use Rattle.std.specs.Prelude.{filter}
use Rattle.entry_clauses.specs.SeenScreens.{seen_screen}
use Rattle.front_rules.specs.Outside.{is_screen_outside}
use Rattle.name_rules.specs.Faults.{faults_at}
use Rattle.front_rules.proofs.outside.note_screens_left_out.Given as goal

abbrev pub invariant-loop-item : goal.invariant-loop-item
invariant-loop-item l =
    l.faults.found.items ≡ l.initial.faults.found.items ++ faults_at 10 (map (λ item. item.row.line) (filter is_screen_outside (map seen_screen (take l.item-index l.screens))))

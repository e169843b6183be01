-- What was found so far.
use Rattle.std.proofs.Common.{◌≡◌, ◌++◌, take, map}
use Rattle.std.specs.Prelude.{filter}
use Rattle.data_names.specs.Spots.{spots}
use Rattle.data_names.specs.Table.{items_of}
use Rattle.entry_clauses.specs.SeenScreens.{seen_screen}
use Rattle.screen_rules.specs.ScreenKinds.{is_screen_of_wrong_kind}
use Rattle.name_rules.specs.Faults.{faults_at}
use Rattle.front_rules.proofs.kinds.note_screens.Given as goal

abbrev pub invariant-loop-item : goal.invariant-loop-item
invariant-loop-item l =
    l.faults.found.items
    ≡ l.initial.faults.found.items ++ faults_at 6 (map (λ spot. spot.item.row.line) (filter (is_screen_of_wrong_kind (items_of l.table)) (take l.item-index (spots (map seen_screen l.screens)))))

-- The faults of those so far.
use Rattle.std.proofs.Common.{◌≡◌, ◌++◌, take, map}
use Rattle.std.specs.Prelude.{filter}
use Rattle.front_rules.specs.Pictures.{has_bad_screen_picture}
use Rattle.entry_clauses.specs.SeenScreens.{seen_screen}
use Rattle.name_rules.specs.Faults.{faults_at}
use Rattle.front_rules.proofs.pictures.note_screen_pictures.Given as goal

abbrev pub invariant-loop-item : goal.invariant-loop-item
invariant-loop-item l =
    l.faults.found.items ≡ l.initial.faults.found.items ++ faults_at 4 (map (λ item. item.row.line) (filter has_bad_screen_picture (map seen_screen (take l.item-index l.screens))))

-- The faults of the entries so far, and those of the rest.
use Rattle.std.proofs.Common.{◌≡◌, ◌++◌, take, drop, map}
use Rattle.entry_clauses.specs.SeenScreens.{seen_screen}
use Rattle.screen_rules.specs.Placing.{off_screen, off_screen_after}
use Rattle.screen_rules.specs.SeenPlaces.{seen_end, IsPlacing}
use Rattle.name_rules.specs.Faults.{faults_at}
use Rattle.screen_rules.proofs.placing.note_off_screen.Given as goal

abbrev pub invariant-loop-item : goal.invariant-loop-item
invariant-loop-item l = record {
  placing : IsPlacing (take l.item-index (map seen_screen l.screens)) l.before;
  found : l.faults.found.items ++ faults_at 11 (off_screen_after (seen_end l.before.last) (take l.item-index (map seen_screen l.screens)) (drop l.item-index (map seen_screen l.screens)))
      ≡ l.initial.faults.found.items ++ faults_at 11 (off_screen (map seen_screen l.screens));
}

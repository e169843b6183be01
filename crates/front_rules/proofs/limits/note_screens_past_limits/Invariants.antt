-- The faults of those so far.
use Rattle.std.proofs.Common.{◌≡◌, ◌++◌, take, map}
use Rattle.std.specs.Prelude.{filter}
use Rattle.entry_clauses.specs.Spelled.{is_too_wide}
use Rattle.entry_clauses.specs.SeenScreens.{seen_screen}
use Rattle.name_rules.specs.Faults.{faults_at}
use Rattle.front_rules.proofs.limits.note_screens_past_limits.Given as goal

abbrev pub invariant-loop-item : goal.invariant-loop-item
invariant-loop-item l =
    l.faults.found.items ≡ l.initial.faults.found.items ++ faults_at 5 (map (λ item. item.row.line) (filter (λ item. is_too_wide item.row.spelled) (map seen_screen (take l.item-index l.screens))))

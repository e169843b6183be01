-- The faults of those so far.
use Rattle.std.proofs.Common.{◌≡◌, ◌++◌, take, map}
use Rattle.std.specs.Prelude.{filter}
use Rattle.data_layout.specs.Faults.{is_unreadable}
use Rattle.data_names.specs.Seen.{seen_item}
use Rattle.name_rules.specs.Faults.{faults_at}
use Rattle.front_rules.proofs.pictures.note_item_pictures.Given as goal

abbrev pub invariant-loop-item : goal.invariant-loop-item
invariant-loop-item l =
    l.faults.found.items ≡ l.initial.faults.found.items ++ faults_at 4 (map (λ item. item.row.line) (filter (λ item. is_unreadable item.row.spelled) (map seen_item (take l.item-index l.items))))

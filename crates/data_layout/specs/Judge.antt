-- What is known of faults after some rows.
use Rattle.std.specs.Prelude.{◌≡◌, List}
use Rattle.std.specs.List.{list_all}
use Rattle.data_layout.specs.declared.row.Row.{Row}
use Rattle.data_layout.specs.declared.fault.LayoutFault.{LayoutFault}
use Rattle.data_layout.specs.declared.judging.Judge.{Judge}
use Rattle.data_layout.specs.Faults.{has_size}
use Rattle.data_layout.specs.Best.{IsBest}
use Rattle.data_layout.specs.Walk.{IsAfter}

-- `found` has the faults before
pub record IsJudged (before : List Row) (found : List LayoutFault) (judge : Judge) : Type 0 where
  pub walk : IsAfter before judge.walk
  pub sized : judge.sized ≡ list_all has_size before
  pub best : IsBest found judge.best

-- What is known after some rows.
use Rattle.std.specs.Prelude.{◌≡◌, ◌==◌, Bool, List}
use Rattle.std.specs.List.{list_any}
use Rattle.data_layout.specs.Rows.{rank}
use Rattle.screen_rows.specs.declared.row.ScreenRow.{ScreenRow}
use Rattle.screen_layout.specs.declared.walk.Lead.{Lead}
use Rattle.screen_layout.specs.declared.walk.ScreenWalk.{ScreenWalk}
use Rattle.screen_layout.specs.Placing.{opened, leading, innermost, end_after}

-- the clauses of the groups that stand right before
pub record IsLead (before : List ScreenRow) (lead : Lead) : Type 0 where
  pub line : lead.line ≡ innermost (λ r. r.own.line) (leading before)
  pub column : lead.column ≡ innermost (λ r. r.own.column) (leading before)
  pub blank : lead.blank ≡ innermost (λ r. r.own.blank) (leading before)
  pub erase : lead.erase ≡ innermost (λ r. r.own.erase) (leading before)

-- the open rows, the clauses that wait for a first item, and where the last item ends
pub record IsAfter (before : List ScreenRow) (walk : ScreenWalk) : Type 0 where
  pub rows : walk.rows.items ≡ opened before
  pub lead : IsLead before walk.lead
  pub last_end : walk.end ≡ end_after before

-- an open row has the rank of this one
abbrev pub any_level : ScreenRow → List ScreenRow → Bool
any_level row rows = list_any (λ other. rank other.level == rank row.level) rows

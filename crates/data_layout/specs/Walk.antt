-- What is known after some rows.
use Rattle.std.specs.Prelude.{◌≡◌, ℕ, ◌^◌, ◌-◌, min, ◌==◌, Bool, List}
use Rattle.std.specs.List.{list_any}
use Rattle.data_layout.specs.declared.row.Row.{Row}
use Rattle.data_layout.specs.declared.walk.Walk.{Walk}
use Rattle.data_layout.specs.Rows.{rank}
use Rattle.data_layout.specs.Storage.{opened, groups, storage}

-- the largest count there is, where a count is larger
abbrev pub counted : ℕ → ℕ
counted number = min number (2 ^ 64 - 1)

-- the open rows and the bytes after these rows
pub record IsAfter (before : List Row) (walk : Walk) : Type 0 where
  pub rows : walk.rows.items ≡ opened before
  pub total : walk.total ≡ counted (storage before)

-- the groups of the next row, and the bytes before it
pub record IsBetween (before : List Row) (row : Row) (walk : Walk) : Type 0 where
  pub rows : walk.rows.items ≡ groups before row
  pub total : walk.total ≡ counted (storage before)

-- an open row has the rank of this one
abbrev pub any_level : Row → List Row → Bool
any_level row rows = list_any (λ other. rank other.level == rank row.level) rows

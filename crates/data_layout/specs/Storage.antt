-- Groups and sizes, as levels give them.
use Rattle.std.specs.Prelude.{ℕ, ◌+◌, ◌*◌, nat_lt, ◌==◌, if◌then◌else◌, Bool, not, ◌&&◌, List, [], ◌∷◌, ◌++◌, filter, take_while, Option, Some, None, is_some}
use Rattle.std.specs.List.{list_any, list_all, last_or}
use Rattle.data_layout.specs.declared.row.Row.{Row}
use Rattle.data_layout.specs.Rows.{rank}

-- A row after another goes on in it, as a member of its group, where it has a higher level and begins no section.
abbrev pub goes_on : Row → Row → Bool
goes_on group row = not row.starts && nat_lt (rank group.level) (rank row.level)

-- The rows that are open after a list of rows: those in which every later row goes on. The last one always is.
abbrev pub opened : List Row → List Row
opened [] = []
opened (row ∷ later) = if list_all (goes_on row) later then row ∷ opened later else opened later

-- The groups that a row is in, from the outside in: of the rows that are open before it, those in which it goes on.
abbrev pub groups : List Row → Row → List Row
groups before row = filter (λ group. goes_on group row) (opened before)

-- the last of some rows
abbrev pub last_of : List Row → Option Row
last_of rows = last_or None rows

-- the members of a group: the rows after it up to the first that does not go on in it
abbrev pub members : Row → List Row → List Row
members group rest = take_while (goes_on group) rest

-- an OCCURS clause of 0 counts as none
abbrev pub number_of_times : Option ℕ → ℕ
number_of_times None = 1
number_of_times (Some number) = if number == 0 then 1 else number

-- how often the innermost of these occurs
abbrev pub times : List Row → ℕ
times [] = 1
times (row ∷ rows) = number_of_times row.occurs * times rows

-- the bytes of an elementary item, once
abbrev pub own_size : Row → ℕ
own_size row = if row.group then 0 else row.size

-- The bytes of rows that stand after others: the size of each elementary item, as often as it occurs.
abbrev pub bytes_after : List Row → List Row → ℕ
bytes_after before [] = 0
bytes_after before (row ∷ rest) = own_size row * times (opened (before ++ row ∷ [])) + bytes_after (before ++ row ∷ []) rest

-- the bytes of a list of rows by itself
abbrev pub storage : List Row → ℕ
storage rows = bytes_after [] rows

-- a row stands in a group with OCCURS
abbrev pub is_repeated : List Row → Row → Bool
is_repeated before row = list_any (λ group. goes_on group row && is_some group.occurs) (opened before)

-- Why entries have no layout: the list of all faults, of which the least is told.
use Rattle.std.specs.Prelude.{◌≡◌, ℕ, ◌<◌, ◌≤◌, ◌==◌, nat_lt, nat_le, if◌then◌else◌, Bool, true, false, not, ◌&&◌, ◌||◌, ◌⊎◌, List, [], ◌∷◌, ◌++◌, map, Option, Some, None, is_some, All, Contains}
use Rattle.std.specs.List.{list_any, list_all}
use Rattle.cob_base.specs.declared.line.Line.{Line}
use Rattle.data_layout.specs.declared.fault.LayoutFault.{LayoutFault}
use Rattle.data_layout.specs.declared.fault.LayoutFault.TheVariants.{StorageLimit, RecordLimit, BadLevel, BadPicture, NoMemory}
use Rattle.data_layout.specs.declared.row.Row.{Row}
use Rattle.data_layout.specs.declared.row.Spelled.{Spelled}
use Rattle.data_layout.specs.declared.row.Spelled.TheVariants as s
use Rattle.data_layout.specs.Rows.{rank}
use Rattle.data_layout.specs.Storage.{goes_on, opened, members, storage, is_repeated, last_of}

-- ---- pictures

abbrev pub is_missing : Spelled → Bool
is_missing s.Missing = true
is_missing s.Unreadable = false
is_missing s.TooWide = false
is_missing s.Fits = false

-- no form of a picture fits, or its limits are passed
abbrev pub is_refused : Spelled → Bool
is_refused s.Missing = false
is_refused s.Unreadable = true
is_refused s.TooWide = true
is_refused s.Fits = false

abbrev pub is_unreadable : Spelled → Bool
is_unreadable s.Missing = false
is_unreadable s.Unreadable = true
is_unreadable s.TooWide = false
is_unreadable s.Fits = false

-- the size of the item does not hang on a text that is no picture
abbrev pub has_size : Row → Bool
has_size row = row.group || not (is_unreadable row.spelled)

-- ---- levels and clauses

-- the row goes on in the last one
abbrev pub goes_deeper : Option Row → Row → Bool
goes_deeper None row = false
goes_deeper (Some last) row = goes_on last row

-- A level fits that is 01 or 77, is higher than that of the row right before, or is the level of a row that is open there.
abbrev pub level_fits : List Row → Row → Bool
level_fits before row =
    (rank row.level == 1) || (not row.starts && (goes_deeper (last_of before) row || list_any (λ other. rank other.level == rank row.level) (opened before)))

-- an OCCURS number is 1 to 9,999
abbrev pub is_in_range : Option ℕ → Bool
is_in_range None = true
is_in_range (Some number) = nat_le 1 number && nat_le number 9999

-- What is at fault in an entry by itself: a clause twice, level 77 or PICTURE on a group, no PICTURE on an elementary item, OCCURS
-- on level 01 or 77, an OCCURS number out of its range.
abbrev pub has_bad_clauses : Row → Bool
has_bad_clauses row =
    row.twice || (row.group && (row.level == 77)) || (row.group && not (is_missing row.spelled)) || (not row.group && is_missing row.spelled)
    || (is_some row.occurs && (rank row.level == 1)) || not (is_in_range row.occurs)

-- a level that does not fit, OCCURS inside OCCURS, or a fault of the entry by itself
abbrev pub is_bad_level : List Row → Row → Bool
is_bad_level before row = not (level_fits before row) || (is_some row.occurs && is_repeated before row) || has_bad_clauses row

-- ---- limits

-- with this row storage passes 1,000,000 bytes, where every size up to here is known
abbrev pub passes_storage : List Row → Row → Bool
passes_storage before row = list_all has_size (before ++ row ∷ []) && nat_le (storage before) 1000000 && nat_lt 1000000 (storage (before ++ row ∷ []))

-- the row is a file's record of more than 512 bytes, where the size of every member is known
abbrev pub passes_record : Row → List Row → Bool
passes_record row rest =
    row.in_file && (row.level == 1) && list_all has_size (row ∷ members row rest) && nat_lt 512 (storage (row ∷ members row rest))

-- ---- the faults

abbrev pub fault_where : Bool → LayoutFault → List LayoutFault
fault_where holds fault = if holds then fault ∷ [] else []

-- the faults of a row, which stands between others
abbrev pub row_faults : List Row → Row → List Row → List LayoutFault
row_faults before row rest =
    fault_where (passes_storage before row) (StorageLimit row.line)
    ++ (fault_where (passes_record row rest) (RecordLimit row.line)
    ++ (fault_where (is_bad_level before row) (BadLevel row.line)
    ++ fault_where (is_refused row.spelled) (BadPicture row.line)))

-- the faults of the rows after others
abbrev pub faults_after : List Row → List Row → List LayoutFault
faults_after before [] = []
faults_after before (row ∷ rest) = row_faults before row rest ++ faults_after (before ++ row ∷ []) rest

-- all faults: those of the rows, and each 88 entry that stands after no item
abbrev pub layout_faults : List Line → List Row → List LayoutFault
layout_faults strays rows = map BadLevel strays ++ faults_after [] rows

-- ---- the least

abbrev pub line_of : LayoutFault → ℕ
line_of (StorageLimit line) = line.0
line_of (RecordLimit line) = line.0
line_of (BadLevel line) = line.0
line_of (BadPicture line) = line.0
line_of NoMemory = 0

-- in one line the order is this
abbrev pub order_of : LayoutFault → ℕ
order_of (StorageLimit line) = 0
order_of (RecordLimit line) = 1
order_of (BadLevel line) = 2
order_of (BadPicture line) = 3
order_of NoMemory = 4

-- no later than the other: in an earlier line, or in the same and no later in the order
abbrev pub IsNoLater : LayoutFault → LayoutFault → Type 0
IsNoLater fault other = (line_of fault < line_of other) ⊎ ((line_of fault ≡ line_of other) × (order_of fault ≤ order_of other))

-- a fault of the list, and no other is before it
pub record IsLeast (all : List LayoutFault) (fault : LayoutFault) : Type 0 where
  pub among : Contains all fault
  pub first : All (IsNoLater fault) all

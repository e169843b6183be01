-- Why screen entries have no plans: the list of all faults, of which the least is told.
use Rattle.std.specs.Prelude.{◌≡◌, ℕ, ◌<◌, ◌≤◌, ◌⊎◌, if◌then◌else◌, Bool, not, ◌||◌, List, [], ◌∷◌, ◌++◌, All, Contains}
use Rattle.screen_layout.specs.declared.fault.ScreenFault.{ScreenFault}
use Rattle.screen_layout.specs.declared.fault.ScreenFault.TheVariants.{OffScreen, BadItem, NoMemory}
use Rattle.screen_rows.specs.declared.row.ScreenRow.{ScreenRow}
use Rattle.screen_layout.specs.Placing.{is_off_screen, level_fits}

abbrev pub fault_where : Bool → ScreenFault → List ScreenFault
fault_where holds fault = if holds then fault ∷ [] else []

-- the faults of a row after others: its place, then its level and clauses
abbrev pub row_faults : List ScreenRow → ScreenRow → List ScreenFault
row_faults before row = fault_where (is_off_screen before row) (OffScreen row.line) ++ fault_where (row.bad || not (level_fits before row)) (BadItem row.line)

-- the faults of the rows after others
abbrev pub faults_after : List ScreenRow → List ScreenRow → List ScreenFault
faults_after before [] = []
faults_after before (row ∷ rest) = row_faults before row ++ faults_after (before ++ row ∷ []) rest

abbrev pub screen_faults : List ScreenRow → List ScreenFault
screen_faults rows = faults_after [] rows

abbrev pub line_of : ScreenFault → ℕ
line_of (OffScreen line) = line.0
line_of (BadItem line) = line.0
line_of NoMemory = 0

-- in one line the order is this
abbrev pub order_of : ScreenFault → ℕ
order_of (OffScreen line) = 0
order_of (BadItem line) = 1
order_of NoMemory = 2

-- no later than the other: in an earlier line, or in the same and no later in the order
abbrev pub IsNoLater : ScreenFault → ScreenFault → Type 0
IsNoLater fault other = (line_of fault < line_of other) ⊎ ((line_of fault ≡ line_of other) × (order_of fault ≤ order_of other))

-- a fault of the list, and no other is before it
pub record IsLeast (all : List ScreenFault) (fault : ScreenFault) : Type 0 where
  pub among : Contains all fault
  pub first : All (IsNoLater fault) all

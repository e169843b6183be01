-- Faults: pairs of a line and a reason. The least of them is told, by line, then by reason.
use Rattle.std.specs.Prelude.{◌≡◌, ℕ, ◌<◌, ◌≤◌, ◌⊎◌, Bool, if◌then◌else◌, List, [], ◌∷◌, map, Option, Some, None, All, Contains}
use Rattle.cob_base.specs.declared.line.Line.{Line}
use Rattle.name_rules.specs.declared.fault.Fault.{Fault}

-- the fault of this reason in each of these lines
abbrev pub faults_at : ℕ → List Line → List Fault
faults_at reason lines = map (λ line. record { line = line; reason = reason }) lines

-- in an earlier line, or in the same for no greater reason
abbrev pub IsNoLater : Fault → Fault → Type 0
IsNoLater fault other = (fault.line.0 < other.line.0) ⊎ ((fault.line.0 ≡ other.line.0) × (fault.reason ≤ other.reason))

-- a fault of the list, and no other is before it
pub record IsLeast (all : List Fault) (fault : Fault) : Type 0 where
  pub among : Contains all fault
  pub first : All (IsNoLater fault) all

-- None where there is no fault, else the least
abbrev pub IsBest : List Fault → Option Fault → Type 0
IsBest all None = all ≡ []
IsBest all (Some fault) = IsLeast all fault

-- a fault that is there or not
abbrev pub fault_where : Bool → ℕ → Line → List Fault
fault_where holds reason line = if holds then record { line = line; reason = reason } ∷ [] else []

-- The 88 entries that the code knows, as the definitions see them.
use Rattle.std.specs.Prelude.{◌≡◌, ℕ, ◌<◌, ◌+◌, ◌++◌, List, [], ◌∷◌, length, drop, Bool, true, is_some, Option, Some, None, slice_get}
use Rattle.std.specs.List.{AllZip}
use Rattle.cob_base.specs.declared.divisions.Front.{Front}
use Rattle.cob_base.specs.declared.data_entries.DataEntry.{DataEntry}
use Rattle.cob_base.specs.declared.operands.Reference.{Reference}
use Rattle.data_names.specs.Parts.{item_entries}
use Rattle.data_names.specs.Items.{DataItem}
use Rattle.data_names.specs.Spots.{Spot, spots}
use Rattle.data_names.specs.declared.table.Found.{Found}
use Rattle.data_names.specs.declared.table.Found.TheVariants.{Nothing, One, Several}
use Rattle.procedure_names.specs.declared.conditions.KnownCondition.{KnownCondition}
use Rattle.procedure_names.specs.declared.conditions.EntryPlace.{EntryPlace}
use Rattle.procedure_names.specs.declared.conditions.Conditions.{Conditions}
use Rattle.procedure_names.specs.Conditions.{NamedCondition, conditions, conditions_after, is_condition_match, matching_conditions}
use Rattle.procedure_names.specs.ConditionNames.{AreConditionNames}

-- the item of this number, or none
abbrev pub IsSpotAt : List DataItem → Option (Spot DataItem) → Option ℕ → Type 0
IsSpotAt items spot None = spot ≡ None
IsSpotAt items spot (Some at) = (at < length items) × (slice_get (spots items) at ≡ spot) × (is_some spot ≡ true)

-- the entry is the same, and the item is the one of this number
pub record IsKnownCondition (items : List DataItem) (known : KnownCondition) (named : NamedCondition) : Type 0 where
  pub entry : known.entry.now ≡ named.entry
  pub item : slice_get (spots items) known.item ≡ Some named.spot

-- After some entries of a section the code has the 88 entries up to there, and stands at the place behind the entries passed: those of
-- the section are the ones that it has and those of the rest.
pub record IsStepTo (items : List DataItem) (made : List NamedCondition) (last : Option (Spot DataItem)) (place : EntryPlace) (entries rest : List DataEntry) (all : List KnownCondition) (next : EntryPlace) : Type 0 where
  pub more : List NamedCondition
  pub next_last : Option (Spot DataItem)
  pub known : AllZip (IsKnownCondition items) all (made ++ more)
  pub last_is : IsSpotAt items next_last next.last
  pub count : next.items + length (item_entries rest) ≡ place.items + length (item_entries entries)
  pub goes_on : conditions_after last entries (drop place.items (spots items)) ≡ more ++ conditions_after next_last rest (drop next.items (spots items))

-- these are the 88 entries of a front with these items, with their names
pub record AreConditions (front : Front) (items : List DataItem) (known : Conditions) : Type 0 where
  pub all : AllZip (IsKnownCondition items) known.all.items (conditions front items)
  pub names : AreConditionNames (conditions front items) known.names

-- no 88 entry matches a reference, the one of this number alone, or several
abbrev pub IsFoundCondition : Front → List DataItem → Reference → Found → Type 0
IsFoundCondition front items reference Nothing = matching_conditions front items reference ≡ []
IsFoundCondition front items reference (One at) = (named : NamedCondition) × (slice_get (conditions front items) at ≡ Some named) × (matching_conditions front items reference ≡ named ∷ [])
IsFoundCondition front items reference Several = 1 < length (matching_conditions front items reference)

-- what some 88 entries with their numbers come to
abbrev pub IsAmongConditions : List (ℕ × NamedCondition) → Found → Type 0
IsAmongConditions some Nothing = some ≡ []
IsAmongConditions some (One at) = (named : NamedCondition) × (some ≡ (at, named) ∷ [])
IsAmongConditions some Several = 1 < length some

-- the reference matches the 88 entry
abbrev pub is_choice : Reference → ℕ × NamedCondition → Bool
is_choice reference one = is_condition_match reference one.1

-- What the table of a program's items finds.
use Rattle.std.specs.Prelude.{◌≡◌, ℕ, ◌<◌, Bool, List, [], ◌∷◌, length, map, Option, Some, None, slice_get}
use Rattle.cob_base.specs.declared.operands.Reference.{Reference}
use Rattle.data_names.specs.declared.table.Found.{Found}
use Rattle.data_names.specs.declared.table.Found.TheVariants.{Nothing, One, Several}
use Rattle.data_names.specs.declared.table.Table.{Table}
use Rattle.data_names.specs.Items.{DataItem}
use Rattle.data_names.specs.Spots.{Spot, spots}
use Rattle.data_names.specs.Seen.{seen_item}
use Rattle.data_names.specs.Facts.{AreFacts}
use Rattle.data_names.specs.Names.{AreNames}
use Rattle.data_names.specs.Pairs.{ArePairs}
use Rattle.data_names.specs.References.{matching, found, is_match}

-- the items of a table
abbrev pub items_of : Table → List DataItem
items_of table = map seen_item table.items.now

-- the facts and the names of a table are those of its items
pub record IsTable (table : Table) : Type 0 where
  pub facts : AreFacts (items_of table) table.facts.now
  pub names : AreNames (items_of table) table.names.now
  pub pairs : ArePairs (items_of table) table.pairs.now

-- no item of this name with these qualifiers, the one of this number alone, or several
abbrev pub IsFound : List DataItem → List ℕ → List (List ℕ) → Found → Type 0
IsFound items name qualifiers Nothing = matching items name qualifiers ≡ []
IsFound items name qualifiers (One at) = (spot : Spot DataItem) × (slice_get (spots items) at ≡ Some spot) × (matching items name qualifiers ≡ spot ∷ [])
IsFound items name qualifiers Several = 1 < length (matching items name qualifiers)

-- what some items with their numbers come to
abbrev pub IsAmong : List (ℕ × Spot DataItem) → Found → Type 0
IsAmong some Nothing = some ≡ []
IsAmong some (One at) = (spot : Spot DataItem) × (some ≡ (at, spot) ∷ [])
IsAmong some Several = 1 < length some

-- the item has the name, and the qualifiers name groups around it
abbrev pub is_choice : List ℕ → List (List ℕ) → ℕ × Spot DataItem → Bool
is_choice name qualifiers one = is_match name qualifiers one.1

-- what a reference stands for, by its number: none where it matches none or several
abbrev pub IsFoundAt : Table → Reference → Option ℕ → Type 0
IsFoundAt table reference None = found (items_of table) reference ≡ None
IsFoundAt table reference (Some at) =
    (spot : Spot DataItem) × (at < length table.items.now) × (slice_get (spots (items_of table)) at ≡ Some spot) × (found (items_of table) reference ≡ Some spot)

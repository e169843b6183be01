-- What a shelf holds.
use Rattle.std.specs.Prelude.{◌≡◌, ◌⊎◌, ℕ, Bool, List, [], ◌∷◌, ◌++◌, ⊤, Option, None, Some, if◌then◌else◌}
use Rattle.std.specs.Str.{bytes_eq}
use Rattle.outside_world.specs.declared.shelf.Held.{Held}

-- the bytes under a name; of several entries of one name the first alone counts
abbrev pub lookup : List ℕ → List Held → Option (List ℕ)
lookup name [] = None
lookup name (held ∷ rest) = if bytes_eq held.name name then held.bytes else lookup name rest

-- where the shelf tells it, the name holds this now, and each other name what it held
abbrev pub Stores : List ℕ → Option (List ℕ) → Option (List Held) → Option (List Held) → Type 0
Stores name bytes None new = ⊤
Stores name bytes (Some old) None = ⊥
Stores name bytes (Some old) (Some new) = (other : List ℕ) → lookup other new ≡ (if bytes_eq name other then bytes else lookup other old)

-- where the shelf tells it, each name holds what it held
abbrev pub StoresNothing : Option (List Held) → Option (List Held) → Type 0
StoresNothing None new = ⊤
StoresNothing (Some old) None = ⊥
StoresNothing (Some old) (Some new) = (other : List ℕ) → lookup other new ≡ lookup other old

-- the name holds what it held or a prefix of the bytes, and each other name what it held
abbrev pub StoresPart : List ℕ → List ℕ → Option (List Held) → Option (List Held) → Type 0
StoresPart name bytes old new = StoresNothing old new ⊎ ((front rest : List ℕ) × (bytes ≡ front ++ rest) × Stores name (Some front) old new)

-- the entry has this name
abbrev pub has_name : List ℕ → Held → Bool
has_name name held = bytes_eq held.name name

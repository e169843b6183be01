-- Which items a reference matches.
use Rattle.std.specs.Prelude.{ℕ, Bool, true, false, ◌&&◌, if◌then◌else◌, List, [], ◌∷◌, map, filter, length, reverse, Option, Some, None}
use Rattle.std.specs.Str.{str_eq_ignore_ascii_case}
use Rattle.cob_base.specs.declared.operands.Reference.{Reference}
use Rattle.data_names.specs.Items.{DataItem}
use Rattle.data_names.specs.Spots.{Spot, spots, groups_of}

-- names are compared without regard to case
abbrev pub same_name : List ℕ → List ℕ → Bool
same_name name other = str_eq_ignore_ascii_case name other

-- an entry with no name, or FILLER, is called nothing
abbrev pub is_called : List ℕ → Option (List ℕ) → Bool
is_called name None = false
is_called name (Some other) = same_name other name

-- the qualifiers are some of these names of groups, in their order
abbrev pub is_qualified : List (List ℕ) → List (Option (List ℕ)) → Bool
is_qualified [] groups = true
is_qualified (qualifier ∷ others) [] = false
is_qualified (qualifier ∷ others) (group ∷ groups) =
    if is_called qualifier group then is_qualified others groups else is_qualified (qualifier ∷ others) groups

-- the names of the groups that an item is in, from the outside in
abbrev pub names_around : Spot DataItem → List (Option (List ℕ))
names_around spot = map (λ group. group.text.name) (groups_of spot)

-- The name is the item's, and the qualifiers are names of groups that it is in, from the inside out.
abbrev pub is_match : List ℕ → List (List ℕ) → Spot DataItem → Bool
is_match name qualifiers spot = is_called name spot.item.text.name && is_qualified qualifiers (reverse (names_around spot))

-- the items of a name with these qualifiers
abbrev pub matching : List DataItem → List ℕ → List (List ℕ) → List (Spot DataItem)
matching items name qualifiers = filter (is_match name qualifiers) (spots items)

-- how many items a reference matches
abbrev pub count_of_matches : List DataItem → Reference → ℕ
count_of_matches items reference = length (matching items reference.name reference.qualifiers)

abbrev pub only_one : {A : Type 0} → List A → Option A
only_one [] = None
only_one (x ∷ []) = Some x
only_one (x ∷ (y ∷ others)) = None

-- the item that a reference stands for: none where it matches none or several
abbrev pub found : List DataItem → Reference → Option (Spot DataItem)
found items reference = only_one (matching items reference.name reference.qualifiers)

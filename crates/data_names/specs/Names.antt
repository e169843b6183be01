-- The numbers of the items of each name.
use Rattle.std.specs.Prelude.{◌≡◌, ℕ, ◌+◌, ◌==◌, Bool, false, if◌then◌else◌, List, [], ◌∷◌, ◌++◌, map, Option, Some, None}
use Rattle.std.specs.List.{last_or}
use Rattle.std.specs.Option.{option_map_or}
use Rattle.std.specs.Ordering.{nat_cmp}
use Rattle.std.specs.Cmp.Lexicographic.{slice_cmp}
use Rattle.std.specs.Char.{to_ascii_lowercase}
use Rattle.std.specs.Str.{bytes_eq}
use Rattle.std.specs.BTreeMap.{get_by}
use Rattle.data_names.specs.declared.names.Names.{Names}
use Rattle.data_names.specs.Items.{DataItem}

-- a name in small letters
abbrev pub in_small : List ℕ → List ℕ
in_small name = map to_ascii_lowercase name

-- the key of a name and the name of a group
abbrev pub pair_key : List ℕ → List ℕ → List ℕ
pair_key name group = in_small name ++ (32 ∷ in_small group)

-- the numbers, counted on from here, of those that pass
abbrev pub numbers_from : {A : Type 0} → ℕ → (A → Bool) → List A → List ℕ
numbers_from number test [] = []
numbers_from number test (x ∷ xs) = if test x then number ∷ numbers_from (number + 1) test xs else numbers_from (number + 1) test xs

-- the name is this one in small letters
abbrev pub is_under : List ℕ → Option (List ℕ) → Bool
is_under key None = false
is_under key (Some name) = bytes_eq (in_small name) key

-- the numbers that a table has under a name in small letters
abbrev pub numbers_under : Names → List ℕ → List ℕ
numbers_under names key = option_map_or (λ numbers. numbers.items) (get_by (λ other. slice_cmp nat_cmp key other.items) names.table) []

-- the numbers of these items are in the table, each under its name
abbrev pub AreNames : List DataItem → Names → Type 0
AreNames items names = (key : List ℕ) → numbers_under names key ≡ numbers_from 0 (λ item. is_under key item.text.name) items

-- the last of some numbers is this one
abbrev pub is_number : ℕ → Option ℕ → Bool
is_number number None = false
is_number number (Some last) = last == number

abbrev pub ends_with : ℕ → List ℕ → Bool
ends_with number numbers = is_number number (last_or None numbers)

-- the numbers with this one at their end
abbrev pub with_number : List ℕ → ℕ → List ℕ
with_number numbers number = if ends_with number numbers then numbers else numbers ++ number ∷ []

-- Sets of names, in small letters.
use Rattle.std.specs.Prelude.{◌≡◌, ℕ, Bool, List}
use Rattle.std.specs.List.{list_any}
use Rattle.std.specs.Ordering.{nat_cmp}
use Rattle.std.specs.Cmp.Lexicographic.{slice_cmp}
use Rattle.std.specs.Str.{bytes_eq}
use Rattle.std.specs.BTreeSet.{contains_by}
use Rattle.data_names.specs.Names.{in_small}
use Rattle.name_rules.specs.declared.unknown_names.NameSet.{NameSet}

-- a name in small letters is in a set
abbrev pub has_key : NameSet → List ℕ → Bool
has_key set key = contains_by (λ other. slice_cmp nat_cmp key other.items) set.names

-- the set has these names, in small letters
abbrev pub AreKeys : List (List ℕ) → NameSet → Type 0
AreKeys names set = (key : List ℕ) → has_key set key ≡ list_any (λ name. bytes_eq key (in_small name)) names

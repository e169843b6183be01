-- The number of the first thing of each name.
use Rattle.std.specs.Prelude.{◌≡◌, ℕ, List, position, Option, Some, None, slice_get}
use Rattle.std.specs.Ordering.{nat_cmp}
use Rattle.std.specs.Cmp.Lexicographic.{slice_cmp}
use Rattle.std.specs.BTreeMap.{get_by}
use Rattle.data_names.specs.Names.{is_under}
use Rattle.procedure_names.specs.declared.firsts.Firsts.{Firsts}

-- the number under a name in small letters
abbrev pub first_under : Firsts → List ℕ → Option ℕ
first_under firsts key = get_by (λ other. slice_cmp nat_cmp key other.items) firsts.names

-- things of these names, numbered from 0, each by the first of its name; a thing without a name is under none
abbrev pub AreFirsts : List (Option (List ℕ)) → Firsts → Type 0
AreFirsts names firsts = (key : List ℕ) → first_under firsts key ≡ position (is_under key) names

-- what stands at a number, or nothing
abbrev pub at_number : {A : Type 0} → List A → Option ℕ → Option A
at_number xs None = None
at_number xs (Some number) = slice_get xs number

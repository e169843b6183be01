-- The names, and the pairs of a name with that of a group, that references ask for.
use Rattle.std.specs.Prelude.{◌≡◌, ℕ, nat_le, Bool, false, ◌&&◌, ◌||◌, List, [], ◌∷◌, length, Option, Some, None}
use Rattle.std.specs.List.{list_any}
use Rattle.std.specs.Ordering.{nat_cmp}
use Rattle.std.specs.Cmp.Lexicographic.{slice_cmp}
use Rattle.std.specs.Str.{bytes_eq}
use Rattle.std.specs.BTreeSet.{contains_by}
use Rattle.cob_base.specs.declared.operands.Reference.{Reference}
use Rattle.cob_base.specs.declared.operands.Subscript.{Subscript}
use Rattle.cob_base.specs.declared.operands.Subscript.TheVariants.{Number, Item}
use Rattle.data_names.specs.declared.asked.AskedPairs.{AskedPairs}
use Rattle.data_names.specs.declared.names.Names.{Names}
use Rattle.data_names.specs.Names.{in_small, pair_key, numbers_under}

-- the key of a name or of a pair is asked for
abbrev pub is_asked : AskedPairs → List ℕ → Bool
is_asked asked key = contains_by (λ other. slice_cmp nat_cmp key other.items) asked.keys

abbrev pub is_name_asked : AskedPairs → Option (List ℕ) → Bool
is_name_asked asked None = false
is_name_asked asked (Some name) = is_asked asked (in_small name)

-- ---- what asks for a key

-- 8 or more share the name
abbrev pub is_shared : Names → List ℕ → Bool
is_shared names name = nat_le 8 (length (numbers_under names (in_small name)))

-- the key is that of the name, or of the name with one of the qualifiers
abbrev pub is_key_of : List ℕ → List (List ℕ) → List ℕ → Bool
is_key_of name qualifiers key = bytes_eq key (in_small name) || list_any (λ qualifier. bytes_eq key (pair_key name qualifier)) qualifiers

-- a name asks for its keys where it has qualifiers and is shared
abbrev pub name_asks : Names → List ℕ → List (List ℕ) → List ℕ → Bool
name_asks names name [] key = false
name_asks names name (qualifier ∷ others) key = is_shared names name && is_key_of name (qualifier ∷ others) key

abbrev pub subscript_asks : Names → Option Subscript → List ℕ → Bool
subscript_asks names None key = false
subscript_asks names (Some (Number number)) key = false
subscript_asks names (Some (Item name qualifiers offset)) key = name_asks names name qualifiers key

-- a reference asks for what its name asks for, and what the item of its subscript does
abbrev pub asks : Names → List ℕ → Reference → Bool
asks names key reference = name_asks names reference.name reference.qualifiers key || subscript_asks names reference.subscript key

-- one of these references asks for the key
abbrev pub any_asks : Names → List Reference → List ℕ → Bool
any_asks names references key = list_any (asks names key) references

-- asked for are the keys of which this tells, and no others
abbrev pub AreAskedBy : AskedPairs → (List ℕ → Bool) → Type 0
AreAskedBy asked tells = (key : List ℕ) → is_asked asked key ≡ tells key

-- asked for are the keys that were, and those of which this tells
abbrev pub AreAskedWith : AskedPairs → AskedPairs → (List ℕ → Bool) → Type 0
AreAskedWith old new tells = AreAskedBy new (λ key. is_asked old key || tells key)

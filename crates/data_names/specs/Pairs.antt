-- The numbers of the items of each name that are in a group of each name, for the names that are asked for.
use Rattle.std.specs.Prelude.{◌≡◌, ℕ, Bool, true, false, ◌&&◌, List, reverse, Option, Some, None}
use Rattle.std.specs.List.{list_any}
use Rattle.std.specs.Str.{bytes_eq}
use Rattle.data_names.specs.declared.asked.AskedPairs.{AskedPairs}
use Rattle.data_names.specs.declared.names.Names.{Names}
use Rattle.data_names.specs.declared.pairs.Pairs.{Pairs}
use Rattle.data_names.specs.Items.{DataItem}
use Rattle.data_names.specs.Spots.{Spot, spots}
use Rattle.data_names.specs.References.{names_around, is_match}
use Rattle.data_names.specs.Names.{pair_key, numbers_from, numbers_under}
use Rattle.data_names.specs.Asked.{is_asked, is_name_asked}

abbrev pub is_pair : List ℕ → List ℕ → Option (List ℕ) → Bool
is_pair key name None = false
is_pair key name (Some group) = bytes_eq (pair_key name group) key

-- the key is that of the name and one of these names of groups
abbrev pub is_in : List ℕ → Option (List ℕ) → List (Option (List ℕ)) → Bool
is_in key None groups = false
is_in key (Some name) groups = list_any (is_pair key name) groups

abbrev pub is_under_pair : List ℕ → Spot DataItem → Bool
is_under_pair key spot = is_in key spot.item.text.name (reverse (names_around spot))

-- the item's name is asked for, and so is the key, which is that of its name and of the name of one of its groups
abbrev pub is_kept : AskedPairs → List ℕ → Spot DataItem → Bool
is_kept asked key spot = is_name_asked asked spot.item.text.name && (is_under_pair key spot && is_asked asked key)

-- of these items those whose pairs are asked for have their numbers under the keys of the pairs
abbrev pub AreAskedNumbers : List DataItem → AskedPairs → Names → Type 0
AreAskedNumbers items asked numbers = (key : List ℕ) → numbers_under numbers key ≡ numbers_from 0 (is_kept asked key) (spots items)

abbrev pub ArePairs : List DataItem → Pairs → Type 0
ArePairs items pairs = AreAskedNumbers items pairs.asked pairs.numbers

-- the numbers that a table has under a key, where that is asked for
abbrev pub IsUnder : Pairs → List ℕ → Option (List ℕ) → Type 0
IsUnder pairs key None = is_asked pairs.asked key ≡ false
IsUnder pairs key (Some numbers) = (is_asked pairs.asked key ≡ true) × (numbers ≡ numbers_under pairs.numbers key)

-- Among these numbers are those of all items that match.
pub record IsCover (items : List DataItem) (name : List ℕ) (qualifiers : List (List ℕ)) (numbers : List ℕ) : Type 0 where
  pub test : Spot DataItem → Bool
  pub numbers_are : numbers ≡ numbers_from 0 test (spots items)
  pub covers : (spot : Spot DataItem) → is_match name qualifiers spot ≡ true → test spot ≡ true

-- The numbers of the items of a name within groups of a name, for the pairs of names that are asked for.
use Rattle.std.specs.Prelude.{◌≡◌, ℕ, Bool, false, ◌&&◌, List, [], ◌∷◌, length, map, Option}
use Rattle.data_layout.specs.declared.layout.Item.{Item}
use Rattle.data_layout.specs.Occurrences.{around_item}
use Rattle.data_names.specs.declared.asked.AskedPairs.{AskedPairs}
use Rattle.data_names.specs.declared.names.Names.{Names}
use Rattle.data_names.specs.Names.{numbers_under}
use Rattle.data_names.specs.Asked.{is_asked, is_name_asked}
use Rattle.data_names.specs.Pairs.{is_in}
use Rattle.screen_names.specs.Names.{numbers_where}

abbrev pub group_names : List Item → List (Option (List ℕ))
group_names groups = map (λ group. group.name) groups

-- the name of an item, which its groups follow, is asked for, and so is the key, which is that of its name and of the name of one of its
-- groups
abbrev pub is_kept : AskedPairs → List ℕ → List Item → Bool
is_kept asked key [] = false
is_kept asked key (item ∷ groups) = is_name_asked asked item.name && (is_in key item.name (group_names groups) && is_asked asked key)

-- of these items those whose pairs are asked for have their numbers under the keys of the pairs
abbrev pub AreAskedNumbers : List Item → AskedPairs → Names → Type 0
AreAskedNumbers items asked numbers = (key : List ℕ) → numbers_under numbers key ≡ numbers_where (λ number. is_kept asked key (around_item items number)) (length items)

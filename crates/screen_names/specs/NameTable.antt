-- The numbers of the items of each name.
use Rattle.std.specs.Prelude.{◌≡◌, ℕ, List, length, Option, Some, None, slice_get}
use Rattle.data_layout.specs.declared.layout.Item.{Item}
use Rattle.data_names.specs.declared.names.Names.{Names}
use Rattle.data_names.specs.Names.{is_under, numbers_under}
use Rattle.screen_names.specs.Names.{numbers_where}

abbrev pub name_of : Option Item → Option (List ℕ)
name_of None = None
name_of (Some item) = item.name

-- each item is in the table under its name, and under no other
abbrev pub AreNames : List Item → Names → Type 0
AreNames items names = (key : List ℕ) → numbers_under names key ≡ numbers_where (λ number. is_under key (name_of (slice_get items number))) (length items)

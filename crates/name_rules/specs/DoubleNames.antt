-- Reason 3: names that two files, screens or items share, or two members of one group.
use Rattle.std.specs.Prelude.{ℕ, ◌==◌, Bool, true, false, not, ◌&&◌, ◌||◌, if◌then◌else◌, List, [], ◌∷◌, ◌++◌, map, filter, Option, Some, None}
use Rattle.std.specs.List.{list_any, flat_map, last_or}
use Rattle.cob_base.specs.declared.line.Line.{Line}
use Rattle.cob_base.specs.declared.divisions.Front.{Front}
use Rattle.cob_base.specs.declared.divisions.FileDescription.{FileDescription}
use Rattle.cob_base.specs.declared.data_entries.DataEntry.{DataEntry}
use Rattle.cob_base.specs.declared.data_entries.ItemEntry.{ItemEntry}
use Rattle.cob_base.specs.declared.screen_entries.ScreenEntry.{ScreenEntry}
use Rattle.data_layout.specs.declared.row.Row.{Row}
use Rattle.data_names.specs.Parts.{files, descriptions, working_storage, screen_entries, item_entries}
use Rattle.data_names.specs.Items.{DataItem}
use Rattle.entry_clauses.specs.ScreenItems.{ScreenItem}
use Rattle.data_names.specs.Spots.{Spot, spots, around}
use Rattle.data_names.specs.References.{same_name, is_called}

-- ---- names of the whole program

-- what a name is declared as: in a file control entry, in a file description, as an item of level 01 or 77, or as a screen of level 01
pub data NameClass : Type 0 where
  control_entry : NameClass
  description : NameClass
  data_item : NameClass
  screen : NameClass

pub record Declared : Type 0 where
  pub line : Line
  pub name : List ℕ
  pub class : NameClass

-- a file control entry and the description after it declare one file
abbrev pub are_one_file : NameClass → NameClass → Bool
are_one_file control_entry description = true
are_one_file _ _ = false

-- the two share a name, and are not one file
abbrev pub clashes : Declared → Declared → Bool
clashes earlier later = same_name earlier.name later.name && not (are_one_file earlier.class later.class)

abbrev pub declared_as : NameClass → Line → Option (List ℕ) → List Declared
declared_as class line None = []
declared_as class line (Some name) = record { line = line; name = name; class = class } ∷ []

abbrev pub declared_item : ItemEntry → List Declared
declared_item entry = if (entry.level == 1) || (entry.level == 77) then declared_as data_item entry.line entry.name else []

abbrev pub declared_items : List DataEntry → List Declared
declared_items entries = flat_map declared_item (item_entries entries)

abbrev pub declared_file : FileDescription → List Declared
declared_file file = record { line = file.line; name = file.name; class = description } ∷ declared_items file.records

abbrev pub declared_screen : ScreenEntry → List Declared
declared_screen entry = if entry.level == 1 then declared_as screen entry.line entry.name else []

-- all of these names, in the order of the text
abbrev pub declared : Front → List Declared
declared front =
    map (λ file. record { line = file.line; name = file.name; class = control_entry }) (files front)
    ++ flat_map declared_file (descriptions front)
    ++ declared_items (working_storage front)
    ++ flat_map declared_screen (screen_entries front)

-- each that clashes with an earlier one
abbrev pub later_ones : List Declared → List Line
later_ones names = map (λ spot. spot.item.line) (filter (λ spot. list_any (λ earlier. clashes earlier spot.item) spot.before) (spots names))

-- ---- members of a group

-- an entry's name and its level
pub record Named : Type 0 where
  pub name : Option (List ℕ)
  pub row : Row

abbrev pub number_of_group : Option Named → Option ℕ
number_of_group None = None
number_of_group (Some group) = Some group.row.number

-- the number of the innermost group
abbrev pub own_group : Spot Named → Option ℕ
own_group spot = number_of_group (last_or None (around (λ named. named.row) spot.before spot.item))

abbrev pub same_group : Option ℕ → Option ℕ → Bool
same_group None group = false
same_group (Some number) None = false
same_group (Some number) (Some other) = number == other

abbrev pub same_called : Option (List ℕ) → Option (List ℕ) → Bool
same_called None other = false
same_called (Some name) other = is_called name other

-- both are members of one group, and share a name
abbrev pub are_twins : Spot Named → Spot Named → Bool
are_twins spot other = same_group (own_group spot) (own_group other) && same_called spot.item.name other.item.name

-- each member whose name an earlier member of its group has
abbrev pub later_members : List Named → List Line
later_members entries =
    map (λ spot. spot.item.row.line) (filter (λ spot. list_any (λ earlier. are_twins spot earlier) (spots spot.before)) (spots entries))

abbrev pub named_item : DataItem → Named
named_item item = record { name = item.text.name; row = item.row }

abbrev pub named_screen : ScreenItem → Named
named_screen item = record { name = item.entry.name; row = item.row }

abbrev pub double_names : Front → List DataItem → List ScreenItem → List Line
double_names front items screens = later_ones (declared front) ++ later_members (map named_item items) ++ later_members (map named_screen screens)

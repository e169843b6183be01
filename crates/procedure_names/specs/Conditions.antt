-- The 88 entries of a program, and which of them a reference in a condition matches.
use Rattle.std.specs.Prelude.{ℕ, Bool, ◌&&◌, List, [], ◌∷◌, ◌++◌, length, drop, filter, reverse, Option, Some, None}
use Rattle.cob_base.specs.declared.divisions.Front.{Front}
use Rattle.cob_base.specs.declared.operands.Reference.{Reference}
use Rattle.cob_base.specs.declared.data_entries.DataEntry.{DataEntry}
use Rattle.cob_base.specs.declared.data_entries.DataEntry.TheVariants.{Item, Condition}
use Rattle.cob_base.specs.declared.data_entries.ConditionEntry.{ConditionEntry}
use Rattle.data_layout.specs.Rows.{Section, sections}
use Rattle.data_names.specs.Parts.{item_entries}
use Rattle.data_names.specs.Items.{DataItem}
use Rattle.data_names.specs.Spots.{Spot, spots}
use Rattle.data_names.specs.References.{same_name, is_qualified, names_around, only_one}

-- an 88 entry with the item that it is a condition on
pub record NamedCondition : Type 0 where
  pub entry : ConditionEntry
  pub spot : Spot DataItem

abbrev pub condition_on : ConditionEntry → Option (Spot DataItem) → List NamedCondition
condition_on entry None = []
condition_on entry (Some spot) = record { entry = entry; spot = spot } ∷ []

-- Those of entries whose items these are. An 88 entry is a condition on the last item before it; before the first item of a section it
-- is none.
abbrev pub conditions_after : Option (Spot DataItem) → List DataEntry → List (Spot DataItem) → List NamedCondition
conditions_after last [] items = []
conditions_after last (Item entry ∷ rest) [] = []
conditions_after last (Item entry ∷ rest) (spot ∷ items) = conditions_after (Some spot) rest items
conditions_after last (Condition entry ∷ rest) items = condition_on entry last ++ conditions_after last rest items

-- those of one section after another
abbrev pub conditions_in : List Section → List (Spot DataItem) → List NamedCondition
conditions_in [] items = []
conditions_in (section ∷ others) items =
    conditions_after None section.entries items ++ conditions_in others (drop (length (item_entries section.entries)) items)

-- the 88 entries of a program
abbrev pub conditions : Front → List DataItem → List NamedCondition
conditions front items = conditions_in (sections front) (spots items)

-- the names that may qualify an 88 entry: its item's, then those of the groups that the item is in, from the inside out
abbrev pub qualifying_names : NamedCondition → List (Option (List ℕ))
qualifying_names one = one.spot.item.text.name ∷ reverse (names_around one.spot)

-- The name is the entry's, and the qualifiers are some of those names, in their order.
abbrev pub is_condition_match : Reference → NamedCondition → Bool
is_condition_match reference one = same_name one.entry.name reference.name && is_qualified reference.qualifiers (qualifying_names one)

abbrev pub matching_conditions : Front → List DataItem → Reference → List NamedCondition
matching_conditions front items reference = filter (is_condition_match reference) (conditions front items)

-- how many 88 entries a reference matches
abbrev pub count_of_conditions : Front → List DataItem → Reference → ℕ
count_of_conditions front items reference = length (matching_conditions front items reference)

-- the 88 entry that a reference stands for: none where it matches none or several
abbrev pub found_condition : Front → List DataItem → Reference → Option NamedCondition
found_condition front items reference = only_one (matching_conditions front items reference)

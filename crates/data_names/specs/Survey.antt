-- What is known after some items.
use Rattle.std.specs.Prelude.{◌≡◌, ℕ, Bool, List, map, Option}
use Rattle.std.specs.List.{list_all}
use Rattle.data_layout.specs.declared.row.Row.{Row}
use Rattle.data_layout.specs.Faults.{has_size}
use Rattle.data_layout.specs.Walk.{IsAfter}
use Rattle.data_names.specs.declared.facts.OpenGroup.{OpenGroup}
use Rattle.data_names.specs.declared.facts.Survey.{Survey}
use Rattle.data_names.specs.Seen.{seen_name}
use Rattle.data_names.specs.Items.{DataItem}
use Rattle.data_names.specs.Spots.{open_after, has_value, is_record}
use Rattle.data_names.specs.Facts.{count_with_bytes}

-- what is kept of an open group
pub record Group : Type 0 where
  pub name : Option (List ℕ)
  pub row : Row
  pub has_value : Bool
  pub is_record : Bool

abbrev pub group_of : DataItem → Group
group_of item = record { name = item.text.name; row = item.row; has_value = has_value item; is_record = is_record item }

abbrev pub seen_group : OpenGroup → Group
seen_group group = record { name = seen_name group.name; row = group.row; has_value = group.has_value; is_record = group.is_record }

-- the open entries, their bytes, how many have some, and whether all sizes are known
pub record IsSurvey (before : List DataItem) (survey : Survey) : Type 0 where
  pub walk : IsAfter (map (λ item. item.row) before) survey.walk
  pub groups : map seen_group survey.groups.items ≡ map group_of (open_after (λ item. item.row) before)
  pub with_bytes : survey.with_bytes ≡ count_with_bytes (map (λ item. item.row) before)
  pub sized : survey.sized_so_far ≡ list_all has_size (map (λ item. item.row) before)

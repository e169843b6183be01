-- Reasons 1 and 2: a name that stands for nothing, and a reference that matches several items.
use Rattle.std.specs.Prelude.{ℕ, ◌==◌, nat_lt, Bool, not, List, ◌++◌, map, filter}
use Rattle.std.specs.List.{list_any}
use Rattle.cob_base.specs.declared.line.Line.{Line}
use Rattle.cob_base.specs.declared.divisions.Front.{Front}
use Rattle.data_names.specs.Parts.{files, descriptions}
use Rattle.data_names.specs.Items.{DataItem}
use Rattle.data_names.specs.References.{same_name, count_of_matches}
use Rattle.name_rules.specs.Mentions.{mentions}

-- the name of a file is that of a description
abbrev pub is_described : Front → List ℕ → Bool
is_described front name = list_any (λ description. same_name name description.name) (descriptions front)

-- the name of a description is that of a file control entry
abbrev pub is_selected : Front → List ℕ → Bool
is_selected front name = list_any (λ file. same_name name file.name) (files front)

-- A file control entry without a description of that name, a description without such an entry, and a reference that matches no item.
abbrev pub unknown_names : Front → List DataItem → List Line
unknown_names front items =
    map (λ file. file.line) (filter (λ file. not (is_described front file.name)) (files front))
    ++ map (λ description. description.line) (filter (λ description. not (is_selected front description.name)) (descriptions front))
    ++ map (λ one. one.line) (filter (λ one. count_of_matches items one.reference == 0) (mentions front))

-- references that match several items
abbrev pub ambiguous_names : Front → List DataItem → List Line
ambiguous_names front items = map (λ one. one.line) (filter (λ one. nat_lt 1 (count_of_matches items one.reference)) (mentions front))

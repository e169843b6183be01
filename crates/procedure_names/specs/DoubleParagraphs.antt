-- Reason 3: paragraphs whose name stands for something else before them.
use Rattle.std.specs.Prelude.{ℕ, Bool, false, ◌||◌, List, map, filter, Option, Some, None}
use Rattle.std.specs.List.{list_any}
use Rattle.cob_base.specs.declared.line.Line.{Line}
use Rattle.cob_base.specs.declared.divisions.Front.{Front}
use Rattle.cob_base.specs.declared.paragraphs.Paragraph.{Paragraph}
use Rattle.cob_base.specs.declared.paragraphs.Program.{Program}
use Rattle.data_names.specs.Spots.{spots}
use Rattle.data_names.specs.References.{same_name, is_called}
use Rattle.name_rules.specs.DoubleNames.{declared}

-- the name of an earlier paragraph, or of a file, a level-01 screen, or an item of level 01 or 77
abbrev pub is_taken : Front → List Paragraph → Option (List ℕ) → Bool
is_taken front before None = false
is_taken front before (Some name) =
    list_any (λ earlier. same_name earlier.name name) (declared front) || list_any (λ earlier. is_called name earlier.name) before

-- All of a front stands before the first paragraph, so these are the later ones of those that share a name.
abbrev pub double_paragraphs : Program → List Line
double_paragraphs program =
    map (λ spot. spot.item.line) (filter (λ spot. is_taken program.front spot.before spot.item.name) (spots program.paragraphs))

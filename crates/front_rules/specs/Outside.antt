-- Reason 10: what is left out of the language.
use Rattle.std.specs.Prelude.{Bool, not, ◌&&◌, ◌||◌, List, ◌++◌, map, filter, is_some}
use Rattle.std.specs.List.{list_any}
use Rattle.cob_base.specs.declared.line.Line.{Line}
use Rattle.cob_base.specs.declared.divisions.Front.{Front}
use Rattle.cob_base.specs.declared.file_entries.FileEntry.{FileEntry}
use Rattle.data_names.specs.Parts.{files}
use Rattle.entry_clauses.specs.Clauses.{is_of_file_kind, is_outside_of_items, is_of_screen_kind}
use Rattle.entry_clauses.specs.declared.file_clauses.FileClauseKind.TheVariants as k
use Rattle.entry_clauses.specs.declared.screen_clauses.ScreenClauseKind.TheVariants as n
use Rattle.data_names.specs.Items.{DataItem}
use Rattle.entry_clauses.specs.ScreenItems.{ScreenItem}
use Rattle.data_names.specs.Spots.{Spot, spots, is_repeated}

-- an outside clause, or no ORGANIZATION INDEXED
abbrev pub is_file_outside : FileEntry → Bool
is_file_outside file = list_any (is_of_file_kind k.Outside) file.clauses || not (list_any (is_of_file_kind k.Organization) file.clauses)

-- an outside clause, or OCCURS inside OCCURS
abbrev pub is_item_outside : Spot DataItem → Bool
is_item_outside spot =
    list_any is_outside_of_items spot.item.source.entry.clauses || (is_some spot.item.row.occurs && is_repeated spot)

abbrev pub is_screen_outside : ScreenItem → Bool
is_screen_outside item = list_any (is_of_screen_kind n.Outside) item.entry.clauses

abbrev pub left_out : Front → List DataItem → List ScreenItem → List Line
left_out front items screens =
    map (λ file. file.line) (filter is_file_outside (files front))
    ++ map (λ spot. spot.item.row.line) (filter is_item_outside (spots items))
    ++ map (λ item. item.row.line) (filter is_screen_outside screens)

-- Reason 4: a text that is no picture, and a signed picture on a screen.
use Rattle.std.specs.Prelude.{◌||◌, List, ◌++◌, map, filter, Bool}
use Rattle.cob_base.specs.declared.line.Line.{Line}
use Rattle.data_layout.specs.Faults.{is_unreadable}
use Rattle.data_names.specs.Items.{DataItem}
use Rattle.entry_clauses.specs.ScreenItems.{ScreenItem}

abbrev pub has_bad_screen_picture : ScreenItem → Bool
has_bad_screen_picture item = is_unreadable item.row.spelled || item.signed

abbrev pub bad_pictures : List DataItem → List ScreenItem → List Line
bad_pictures items screens =
    map (λ item. item.row.line) (filter (λ item. is_unreadable item.row.spelled) items)
    ++ map (λ item. item.row.line) (filter has_bad_screen_picture screens)

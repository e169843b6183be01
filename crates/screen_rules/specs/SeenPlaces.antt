-- Places of screen items as the code holds them.
use Rattle.std.specs.Prelude.{◌≡◌, ℕ, ℤ, pos, int_lt, nat_lt, Bool, false, ◌&&◌, ◌||◌, List, ◌++◌, reverse, take_while, Option, Some, None, is_some, if◌then◌else◌}
use Rattle.cob_base.specs.declared.line.Line.{Line}
use Rattle.cob_base.specs.declared.screen_entries.ScreenClause.{ScreenClause}
use Rattle.cob_base.specs.declared.screen_entries.Position.{Position}
use Rattle.data_layout.specs.Faults.{is_unreadable}
use Rattle.data_names.specs.Clauses.{first_of, or_next}
use Rattle.name_rules.specs.declared.fault.Fault.{Fault}
use Rattle.screen_rules.specs.declared.placing.End as code
use Rattle.screen_rules.specs.declared.placing.Place as code_place
use Rattle.screen_rules.specs.declared.placing.Placing.{Placing}
use Rattle.entry_clauses.specs.Clauses.{line_named, column_named}
use Rattle.entry_clauses.specs.ScreenItems.{ScreenItem}
use Rattle.screen_rules.specs.Placing as p
use Rattle.screen_rules.specs.Placing.{line_at, column_at, shown_size, end_of, is_off_screen}
use Rattle.name_rules.specs.Faults.{fault_where}

abbrev pub seen_end : code.End → p.End
seen_end last = record { line = last.line; column = last.column }

abbrev pub seen_place : code_place.Place → p.Place
seen_place place = record { line = place.line; column = place.column; size = place.size }

-- the first item of a screen stands as after an empty one
abbrev pub start : p.End
start = p.start

abbrev pub size_of_picture : ScreenItem → Option ℕ
size_of_picture item = if is_unreadable item.row.spelled || item.signed then None else Some item.row.size

abbrev pub or_given : Option Position → Option Position → Option Position
or_given own given = or_next own given

-- the place of an item for which these LINE and COLUMN count
abbrev pub place_of : p.End → Option Position → Option Position → ScreenItem → p.Place
place_of last line column item = record { line = line_at last.line line; column = column_at last.column column (is_some line); size = shown_size item }

-- an item with a size ends at column 80 at most
abbrev pub is_past_edge_at : Option ℤ → Option ℕ → Bool
is_past_edge_at None size = false
is_past_edge_at (Some last) None = false
is_past_edge_at (Some last) (Some size) = nat_lt 0 size && int_lt (pos 80) last

-- the LINE or COLUMN that the groups right before an entry give
abbrev pub given : (ScreenClause → Option Position) → List ScreenItem → Option Position
given named before = first_of (λ giver. first_of named giver.entry.clauses) (take_while (λ group. group.row.group) (reverse before))

-- what is known after these entries
pub record IsPlacing (before : List ScreenItem) (state : Placing) : Type 0 where
  pub line_is : state.line ≡ given line_named before
  pub column_is : state.column ≡ given column_named before

-- an item of this place was noted where it leaves the screen
pub record Places (place : p.Place) (line : Line) (old new : List Fault) (next : Placing) : Type 0 where
  pub found : new ≡ old ++ fault_where (is_off_screen place) 11 line
  pub last : seen_end next.last ≡ end_of place
  pub no_line : next.line ≡ None
  pub no_column : next.column ≡ None

-- Reason 11: where the items of screens stand, each by its predecessor.
use Rattle.std.specs.Prelude.{ℕ, ◌==◌, ℤ, pos, ◌+ℤ◌, ◌-ℤ◌, int_lt, nat_lt, Bool, true, false, ◌&&◌, ◌||◌, if◌then◌else◌, List, [], ◌∷◌, ◌++◌, length, take_while, reverse, Option, Some, None, is_some, option_map}
use Rattle.cob_base.specs.declared.line.Line.{Line}
use Rattle.cob_base.specs.declared.screen_entries.ScreenClause.{ScreenClause}
use Rattle.cob_base.specs.declared.screen_entries.Position.{Position}
use Rattle.cob_base.specs.declared.screen_entries.Position.TheVariants.{At, Plus, Minus}
use Rattle.data_layout.specs.Rows.{rank}
use Rattle.data_layout.specs.Faults.{is_unreadable}
use Rattle.data_names.specs.Clauses.{first_of}
use Rattle.entry_clauses.specs.Clauses.{line_named, column_named, shown_text, screen_picture_text}
use Rattle.entry_clauses.specs.ScreenItems.{ScreenItem}

-- An item's own entry, and then the groups of which it is the first elementary entry, from the inside out: they stand right before it.
abbrev pub givers : List ScreenItem → ScreenItem → List ScreenItem
givers before item = item ∷ take_while (λ group. group.row.group) (reverse before)

-- the LINE or COLUMN that counts for an item: its own, or else that of the innermost such group that has one
abbrev pub position_of : (ScreenClause → Option Position) → List ScreenItem → ScreenItem → Option Position
position_of named before item = first_of (λ giver. first_of named giver.entry.clauses) (givers before item)

-- Where an item ends: its line and its last column, which is not known after a picture that is refused.
pub record End : Type 0 where
  pub line : ℤ
  pub column : Option ℤ

-- the first item of a screen stands as after an empty one
abbrev pub start : End
start = record { line = pos 1; column = Some (pos 0) }

abbrev pub line_at : ℤ → Option Position → ℤ
line_at last None = last
line_at last (Some (At number)) = pos number
line_at last (Some (Plus number)) = last +ℤ pos number
line_at last (Some (Minus number)) = last -ℤ pos number

-- without COLUMN an item stands right after its predecessor, or at column 1 where it has LINE
abbrev pub column_at : Option ℤ → Option Position → Bool → Option ℤ
column_at last None true = Some (pos 1)
column_at last None false = option_map (λ column. column +ℤ pos 1) last
column_at last (Some (At number)) has_line = Some (pos number)
column_at last (Some (Plus number)) has_line = option_map (λ column. column +ℤ pos number) last
column_at last (Some (Minus number)) has_line = option_map (λ column. column -ℤ pos number) last

abbrev pub text_size : Option (List ℕ) → ℕ
text_size None = 0
text_size (Some text) = length text

-- the bytes that an item shows: its picture's, or those of its VALUE; not known where its picture is none or has an S
abbrev pub shown_size : ScreenItem → Option ℕ
shown_size item =
    if is_some (screen_picture_text item.entry.clauses)
    then (if is_unreadable item.row.spelled || item.signed then None else Some item.row.size)
    else Some (text_size (shown_text item.entry.clauses))

-- where an item stands and how many bytes it shows
pub record Place : Type 0 where
  pub line : ℤ
  pub column : Option ℤ
  pub size : Option ℕ

abbrev pub place_after : End → List ScreenItem → ScreenItem → Place
place_after last before item =
    let line = position_of line_named before item in
    record { line = line_at last.line line; column = column_at last.column (position_of column_named before item) (is_some line); size = shown_size item }

abbrev pub last_column : Option ℤ → Option ℕ → Option ℤ
last_column None size = None
last_column (Some column) None = None
last_column (Some column) (Some size) = Some (column +ℤ pos size -ℤ pos 1)

abbrev pub end_of : Place → End
end_of place = record { line = place.line; column = last_column place.column place.size }

abbrev pub is_beyond : ℤ → ℤ → ℤ → Bool
is_beyond low high number = int_lt number low || int_lt high number

-- an item with a size ends at column 80 at most
abbrev pub is_past_edge : Option ℤ → Option ℕ → Bool
is_past_edge None size = false
is_past_edge (Some column) None = false
is_past_edge (Some column) (Some size) = nat_lt 0 size && int_lt (pos 80) (column +ℤ pos size -ℤ pos 1)

abbrev pub is_no_column : Option ℤ → Bool
is_no_column None = false
is_no_column (Some column) = is_beyond (pos 1) (pos 81) column

-- a line that is not 1 to 24, a column that is not 1 to 81, or bytes that leave the screen
abbrev pub is_off_screen : Place → Bool
is_off_screen place = is_beyond (pos 1) (pos 24) place.line || is_no_column place.column || is_past_edge place.column place.size

-- each level-01 entry begins a screen
abbrev pub begun : End → ScreenItem → End
begun last item = if rank item.row.level == 1 then start else last

abbrev pub off_screen_line : Place → Line → List Line
off_screen_line place line = if is_off_screen place then line ∷ [] else []

-- the lines of the elementary entries that leave the screen, of those after others that end here
abbrev pub off_screen_after : End → List ScreenItem → List ScreenItem → List Line
off_screen_after last before [] = []
off_screen_after last before (item ∷ rest) =
    let here = begun last item in
    let place = place_after here before item in
    if item.row.group then off_screen_after here (before ++ item ∷ []) rest
    else off_screen_line place item.row.line ++ off_screen_after (end_of place) (before ++ item ∷ []) rest

abbrev pub off_screen : List ScreenItem → List Line
off_screen screens = off_screen_after start [] screens

-- Where screen items stand, what they blank, and how they look.
use Rattle.std.specs.Prelude.{ℕ, ◌+◌, ◌-◌, ◌==◌, nat_lt, nat_le, if◌then◌else◌, Bool, true, false, not, ◌&&◌, ◌||◌, List, [], ◌∷◌, ◌++◌, filter, fold, Option, Some, None}
use Rattle.std.specs.List.{list_any, list_all, last_or, filter_map}
use Rattle.cob_base.specs.declared.screen_entries.Position.{Position}
use Rattle.cob_base.specs.declared.screen_entries.Position.TheVariants as p
use Rattle.cob_base.specs.declared.screen_entries.Blanked.{Blanked}
use Rattle.cob_base.specs.declared.screen_entries.Blanked.TheVariants as b
use Rattle.cob_base.specs.declared.screen_entries.Erased.{Erased}
use Rattle.cob_base.specs.declared.screen_entries.Erased.TheVariants as e
use Rattle.data_layout.specs.Rows.{rank}
use Rattle.screen_cells.specs.declared.cell.Style.{Style}
use Rattle.screen_rows.specs.declared.row.ScreenRow.{ScreenRow}
use Rattle.screen_layout.specs.declared.place.Spot.{Spot}
use Rattle.screen_layout.specs.declared.place.Spot.TheVariants as spots
use Rattle.screen_layout.specs.declared.place.End.{End}
use Rattle.screen_layout.specs.declared.place.Start.{Start}
use Rattle.screen_rows.specs.declared.clauses.Look.{Look}
use Rattle.screen_layout.specs.declared.plan.Blank.{Blank}
use Rattle.screen_rows.specs.Clauses.{plain_look}

-- ---- levels

-- a row after another goes on in it where it has a higher level
abbrev pub goes_on : ScreenRow → ScreenRow → Bool
goes_on group row = nat_lt (rank group.level) (rank row.level)

-- the rows that are open after a list of rows: those in which every later row goes on
abbrev pub opened : List ScreenRow → List ScreenRow
opened [] = []
opened (row ∷ later) = if list_all (goes_on row) later then row ∷ opened later else opened later

-- the groups that a row is in, from the outside in
abbrev pub groups : List ScreenRow → ScreenRow → List ScreenRow
groups before row = filter (λ group. goes_on group row) (opened before)

abbrev pub goes_deeper : Option ScreenRow → ScreenRow → Bool
goes_deeper None row = false
goes_deeper (Some last) row = goes_on last row

-- a level fits that is 01, is higher than that of the row right before, or is the level of a row that is open there
abbrev pub level_fits : List ScreenRow → ScreenRow → Bool
level_fits before row = (rank row.level == 1) || goes_deeper (last_or None before) row || list_any (λ other. rank other.level == rank row.level) (opened before)

-- ---- clauses of groups that count on their first item

abbrev pub is_group : ScreenRow → Bool
is_group row = row.group

-- the groups right before a row: the longest end of the rows before that has only groups
abbrev pub leading : List ScreenRow → List ScreenRow
leading [] = []
leading (row ∷ rows) = if list_all is_group (row ∷ rows) then row ∷ rows else leading rows

-- the clause of the innermost of these rows that has it
abbrev pub innermost : {A : Type 0} → (ScreenRow → Option A) → List ScreenRow → Option A
innermost pick rows = last_or None (filter_map pick rows)

-- what the row writes, or else the innermost of the groups that it is the first item of
abbrev pub given : {A : Type 0} → (ScreenRow → Option A) → List ScreenRow → ScreenRow → Option A
given pick before row = innermost pick (leading before ++ row ∷ [])

-- ---- places

-- a line or a column within its bounds
abbrev pub spot_of : ℕ → ℕ → Spot
spot_of most number = if nat_le 1 number && nat_le number most then spots.On number else spots.Off

-- A number itself, or so many after or before another. By another that is not known it is not known either. What is taken from a
-- smaller number leaves 0, which is off.
abbrev pub counted_from : ℕ → Option ℕ → Position → Spot
counted_from most before (p.At number) = spot_of most number
counted_from most None (p.Plus number) = spots.Unknown
counted_from most (Some before) (p.Plus number) = spot_of most (before + number)
counted_from most None (p.Minus number) = spots.Unknown
counted_from most (Some before) (p.Minus number) = spot_of most (before - number)

-- where an item ends: its line and its last column, each where it is known and on the screen
-- (an item that stands by one that is not known, or that is off the screen, is not known itself)
abbrev pub after_line : Option ℕ → Spot
after_line None = spots.Unknown
after_line (Some line) = spot_of 24 line

abbrev pub after_column : Option ℕ → Spot
after_column None = spots.Unknown
after_column (Some column) = spot_of 81 (column + 1)

-- without LINE the predecessor's line
abbrev pub line_at : End → Option Position → Spot
line_at before None = after_line before.line
line_at before (Some position) = counted_from 24 before.line position

-- without COLUMN right after the predecessor, or column 1 where there is LINE
abbrev pub column_at : End → Option Position → Option Position → Spot
column_at before line (Some position) = counted_from 81 before.column position
column_at before (Some line) None = spots.On 1
column_at before None None = after_column before.column

abbrev pub start_after : End → Option Position → Option Position → Start
start_after before line column = record { line = line_at before line; column = column_at before line column }

-- where the item of a row begins, by the end of its predecessor
abbrev pub start_of : End → List ScreenRow → ScreenRow → Start
start_of before rows row = start_after before (given (λ r. r.own.line) rows row) (given (λ r. r.own.column) rows row)

-- an item with a size that ends past column 80
abbrev pub is_end_off : Spot → Option ℕ → Bool
is_end_off (spots.On column) (Some size) = nat_lt 0 size && nat_lt 81 (column + size)
is_end_off (spots.On column) None = false
is_end_off spots.Off size = false
is_end_off spots.Unknown size = false

abbrev pub known : Spot → Option ℕ
known (spots.On number) = Some number
known spots.Off = None
known spots.Unknown = None

-- the last column of an item of this size: its own column less one without a size
abbrev pub last_column : Spot → Option ℕ → Option ℕ
last_column (spots.On column) (Some size) = if is_end_off (spots.On column) (Some size) then None else Some (column + size - 1)
last_column (spots.On column) None = None
last_column spots.Off size = None
last_column spots.Unknown size = None

abbrev pub end_of : Start → Option ℕ → End
end_of start size = record { line = known start.line; column = last_column start.column size }

-- before the first item of a screen
abbrev pub no_item : End
no_item = record { line = Some 1; column = Some 0 }

-- a row of level 01 begins a screen
abbrev pub begun : End → ScreenRow → End
begun before row = if rank row.level == 1 then no_item else before

-- A group is no item.
abbrev pub end_with : End → List ScreenRow → ScreenRow → End
end_with before rows row = if row.group then begun before row else end_of (start_of (begun before row) rows row) row.size

abbrev pub ends_at : End → List ScreenRow → List ScreenRow → End
ends_at before rows [] = before
ends_at before rows (row ∷ rest) = ends_at (end_with before rows row) (rows ++ row ∷ []) rest

-- where the last item of these rows ends
abbrev pub end_after : List ScreenRow → End
end_after rows = ends_at no_item [] rows

-- the place of a row's item after other rows
abbrev pub place_of : List ScreenRow → ScreenRow → Start
place_of rows row = start_of (begun (end_after rows) row) rows row

-- ---- off the screen

abbrev pub is_off : Spot → Bool
is_off (spots.On number) = false
is_off spots.Off = true
is_off spots.Unknown = false

abbrev pub is_start_off : Start → Option ℕ → Bool
is_start_off start size = is_off start.line || is_off start.column || is_end_off start.column size

abbrev pub is_off_screen : List ScreenRow → ScreenRow → Bool
is_off_screen rows row = not row.group && is_start_off (place_of rows row) row.size

-- ---- what is blanked

abbrev pub is_blank_screen : Option Blanked → Bool
is_blank_screen None = false
is_blank_screen (Some b.Screen) = true
is_blank_screen (Some b.Line) = false

abbrev pub is_blank_line : Option Blanked → Bool
is_blank_line None = false
is_blank_line (Some b.Screen) = false
is_blank_line (Some b.Line) = true

abbrev pub is_to_line_end : Option Erased → Bool
is_to_line_end None = false
is_to_line_end (Some e.LineEnd) = true
is_to_line_end (Some e.ScreenEnd) = false

abbrev pub is_to_screen_end : Option Erased → Bool
is_to_screen_end None = false
is_to_screen_end (Some e.LineEnd) = false
is_to_screen_end (Some e.ScreenEnd) = true

abbrev pub blank_by : Option Blanked → Option Erased → Blank
blank_by blank erase = record { screen = is_blank_screen blank; line = is_blank_line blank; line_end = is_to_line_end erase; screen_end = is_to_screen_end erase }

abbrev pub blank_of : List ScreenRow → ScreenRow → Blank
blank_of rows row = blank_by (given (λ r. r.own.blank) rows row) (given (λ r. r.own.erase) rows row)

-- ---- looks

abbrev pub or_outer : {A : Type 0} → Option A → Option A → Option A
or_outer (Some own) outer = Some own
or_outer None outer = outer

-- An entry's own marks and colours in those of its group. HIGHLIGHT and LOWLIGHT replace each other.
abbrev pub within_look : Look → Look → Look
within_look outer own = record {
  highlight = own.highlight || (outer.highlight && not own.lowlight);
  lowlight = own.lowlight || (outer.lowlight && not own.highlight);
  reverse_video = outer.reverse_video || own.reverse_video;
  underline = outer.underline || own.underline;
  blink = outer.blink || own.blink;
  secure = outer.secure || own.secure;
  required = outer.required || own.required;
  full = outer.full || own.full;
  auto = outer.auto || own.auto;
  front = or_outer own.front outer.front;
  back = or_outer own.back outer.back;
}

-- from the outermost group in
abbrev pub look_of : List ScreenRow → ScreenRow → Look
look_of rows row = fold (λ outer group. within_look outer group.own.look) plain_look (groups rows row ++ row ∷ [])

abbrev pub bit : Bool → ℕ → ℕ
bit holds worth = if holds then worth else 0

abbrev pub colour_or : ℕ → Option ℕ → ℕ
colour_or standard None = standard
colour_or standard (Some colour) = colour

-- the marks 1 HIGHLIGHT, 2 LOWLIGHT, 4 REVERSE-VIDEO, 8 UNDERLINE, 16 BLINK; white on black without colours
abbrev pub style_by : Look → Style
style_by look = record {
  marks = bit look.highlight 1 + bit look.lowlight 2 + bit look.reverse_video 4 + bit look.underline 8 + bit look.blink 16;
  front = colour_or 7 look.front;
  back = colour_or 0 look.back;
  secure = look.secure;
  required = look.required;
  full = look.full;
  auto = look.auto;
}

abbrev pub style_of : List ScreenRow → ScreenRow → Style
style_of rows row = style_by (look_of rows row)

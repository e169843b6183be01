-- What showing a plan leaves on a screen. The acts of its items come in order, and a cell shows what the last act that touches it
-- leaves there.
use Rattle.std.specs.Prelude.{◌≡◌, ℕ, ◌+◌, ◌-◌, min, Bool, ◌&&◌, nat_le, nat_lt, if◌then◌else◌, List, [], ◌∷◌, ◌++◌, length, filter, Option, Some, None, slice_get, slice_index, slice_range}
use Rattle.std.specs.List.{flat_map, filter_map, last_or}
use Rattle.screen_cells.specs.Cells.{Shown, cell_count, cell_number, blank_cell, painted_cell}
use Rattle.screen_cells.specs.declared.cell.Cell.{Cell}
use Rattle.screen_cells.specs.declared.cell.Style.{Style}
use Rattle.data_layout.specs.declared.layout.Item.{Item}
use Rattle.data_layout.specs.declared.layout.Layout.{Layout}
use Rattle.cob_value.specs.Moves.{moved}
use Rattle.screen_layout.specs.declared.plan.ScreenPlan.{ScreenPlan}
use Rattle.screen_layout.specs.declared.plan.Placed.{Placed}
use Rattle.screen_rows.specs.declared.row.Show.{Show}
use Rattle.screen_rows.specs.declared.row.Show.TheVariants as s

-- ---- what an item shows

-- the bytes of an item of the layout
abbrev pub item_bytes : Item → List ℕ → List ℕ
item_bytes item storage = slice_range storage item.offset (item.offset + item.size)

abbrev pub moved_in : Option Item → List ℕ → Placed → List ℕ
moved_in None storage placed = []
moved_in (Some item) storage placed = moved item.picture (item_bytes item storage) placed.picture

-- the text, or the item moved into the picture
abbrev pub bytes_of : Show → Layout → List ℕ → Placed → List ℕ
bytes_of s.Nothing layout storage placed = []
bytes_of (s.Text bytes) layout storage placed = bytes
bytes_of (s.Item number) layout storage placed = moved_in (slice_get layout.items number) storage placed

abbrev pub shown_bytes : Layout → List ℕ → Placed → List ℕ
shown_bytes layout storage placed = bytes_of placed.show layout storage placed

-- ---- acts

-- so many cells from the first on are blanked, or show bytes in a style
pub data Act : Type 0 where
  Blanks : (first count : ℕ) → Act
  Paints : (first : ℕ) → Style → List ℕ → Act

-- what an act leaves in a cell, if it touches it
abbrev pub left_in : ℕ → Act → Option Cell
left_in cell (Act.Blanks first count) = if nat_le first cell && nat_lt cell (first + count) then Some blank_cell else None
left_in cell (Act.Paints first style bytes) =
    if nat_le first cell && nat_lt cell (first + length bytes) then Some (painted_cell style (slice_index bytes (cell - first))) else None

abbrev pub act_where : Bool → Act → List Act
act_where holds act = if holds then act ∷ [] else []

-- the cell at which an item begins
abbrev pub first_cell : Placed → ℕ
first_cell placed = cell_number placed.line placed.column

-- BLANK SCREEN blanks all cells, BLANK LINE the item's line, ERASE EOL the cells from the item to its line's end, ERASE EOS those
-- to the screen's end
abbrev pub blank_acts : Placed → List Act
blank_acts placed =
    act_where placed.blank.screen (Act.Blanks 0 cell_count)
    ++ (act_where placed.blank.line (Act.Blanks (cell_number placed.line 1) 80)
    ++ (act_where placed.blank.line_end (Act.Blanks (first_cell placed) (81 - placed.column))
    ++ act_where placed.blank.screen_end (Act.Blanks (first_cell placed) (cell_count - first_cell placed))))

-- then the item is painted
abbrev pub item_acts : Placed → List ℕ → List Act
item_acts placed bytes = blank_acts placed ++ Act.Paints (first_cell placed) placed.style bytes ∷ []

-- the acts of a plan with what each item shows
abbrev pub plan_acts : ScreenPlan → (Placed → List ℕ) → List Act
plan_acts plan bytes = flat_map (λ placed. item_acts placed (bytes placed)) plan.items

-- a cell shows what the last act that touches it leaves, else the old cell
abbrev pub cell_after : List Act → List Cell → ℕ → Option Cell
cell_after acts old cell = last_or (slice_get old cell) (filter_map (left_in cell) acts)

-- each cell after these acts
abbrev pub AreAfter : List Act → List Cell → List Cell → Type 0
AreAfter acts old new = (cell : ℕ) → slice_get new cell ≡ cell_after acts old cell

-- ---- the cursor

abbrev pub has_size : Placed → Bool
has_size placed = nat_lt 0 placed.size

-- right after an item, at most at column 80; without one it stays
abbrev pub cursor_line : Option Placed → ℕ → ℕ
cursor_line None line = line
cursor_line (Some placed) line = placed.line

abbrev pub cursor_column : Option Placed → ℕ → ℕ
cursor_column None column = column
cursor_column (Some placed) column = min (placed.column + placed.size) 80

-- the last item with a size
abbrev pub last_shown : List Placed → Option Placed
last_shown items = last_or None (filter has_size items)

-- the cursor after these items
pub record IsCursorAfter (items : List Placed) (old new : Shown) : Type 0 where
  pub line : new.line ≡ cursor_line (last_shown items) old.line
  pub column : new.column ≡ cursor_column (last_shown items) old.column

-- ---- the screen

-- The screen after a plan was shown. Each cell is looked up by itself. The cursor goes right after the last item with a size, and
-- stays where there is none.
pub record PaintedBy (plan : ScreenPlan) (layout : Layout) (storage : List ℕ) (old new : Shown) : Type 0 where
  pub cells : AreAfter (plan_acts plan (shown_bytes layout storage)) old.cells new.cells
  pub cursor : IsCursorAfter plan.items old new

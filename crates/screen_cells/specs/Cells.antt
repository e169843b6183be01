-- The cells of a screen, and what painting and erasing leave in them.
use Rattle.std.specs.Prelude.{◌≡◌, ℕ, ◌+◌, ◌-◌, ◌*◌, ◌≤◌, Bool, ◌&&◌, List, Some, length, slice_get, slice_index, nat_le, nat_lt, replicate, if◌then◌else◌}
use Rattle.screen_cells.specs.declared.cell.Cell.{Cell}
use Rattle.screen_cells.specs.declared.cell.Style.{Style}

-- 24 lines of 80
abbrev pub cell_count : ℕ
cell_count = 1920

-- the number of the cell at a line and a column; lines and columns count from 1, cells from 0
abbrev pub cell_number : ℕ → ℕ → ℕ
cell_number line column = (line - 1) * 80 + (column - 1)

-- what contracts see of a screen: its cells, line by line from the top, and the cursor
pub record Shown : Type 0 where
  pub cells : List Cell
  pub line : ℕ
  pub column : ℕ

-- there are 1,920 cells, and the cursor is on the screen
pub record IsScreen (cells : List Cell) (line column : ℕ) : Type 0 where
  pub whole : length cells ≡ cell_count
  pub first_line : 1 ≤ line
  pub last_line : line ≤ 24
  pub first_column : 1 ≤ column
  pub last_column : column ≤ 80

-- a space without marks, white on black
abbrev pub blank_cell : Cell
blank_cell = record { byte = 32; marks = 0; front = 7; back = 0 }

-- the cells of a blank screen
abbrev pub blank_cells : List Cell
blank_cells = replicate cell_count blank_cell

-- SECURE shows spaces, and a byte outside 32 to 126 shows as ?
abbrev pub shown_byte : Bool → ℕ → ℕ
shown_byte secure byte = if secure then 32 else (if nat_le 32 byte && nat_le byte 126 then byte else 63)

-- a byte in a style
abbrev pub painted_cell : Style → ℕ → Cell
painted_cell style byte = record { byte = shown_byte style.secure byte; marks = style.marks; front = style.front; back = style.back }

-- from the first cell on each cell shows its byte; every other cell is as it was
pub record Painted (first : ℕ) (style : Style) (bytes : List ℕ) (old new : List Cell) : Type 0 where
  pub each : (n : ℕ) → slice_get new n ≡ (if nat_le first n && nat_lt n (first + length bytes) then Some (painted_cell style (slice_index bytes (n - first))) else slice_get old n)

-- the cells from the first to the last are blank; every other cell is as it was
pub record Erased (first last : ℕ) (old new : List Cell) : Type 0 where
  pub each : (n : ℕ) → slice_get new n ≡ (if nat_le first n && nat_le n last then Some blank_cell else slice_get old n)

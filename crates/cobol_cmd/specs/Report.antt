-- What the commands print: `show` of a unit that shows one literal and stops, and `check` of a program that it reads.
use Rattle.std.specs.Prelude.{ℕ, ◌+◌, ◌-◌, zero, suc, List, [], ◌∷◌, ◌++◌, false, map, take, drop, replicate, length, min, codes}
use Rattle.std.specs.Fmt.{decimal}
use Rattle.screen_cells.specs.Cells.{cell_count, cell_number, shown_byte}

-- the lines of a screen, from its bytes: each is a bar, 80 bytes and a bar
abbrev pub screen_lines : ℕ → List ℕ → List ℕ
screen_lines zero bytes = []
screen_lines (suc count) bytes = 124 ∷ take 80 bytes ++ (124 ∷ 10 ∷ screen_lines count (drop 80 bytes))

-- the bytes of a screen, line by line: the item's from its place on, each other a space; a byte outside 32 to 126 shows as ?
abbrev pub screen_bytes : ℕ → ℕ → List ℕ → List ℕ
screen_bytes line column bytes =
    replicate (cell_number line column) 32 ++ (map (shown_byte false) bytes ++ replicate (cell_count - (cell_number line column + length bytes)) 32)

-- the heading of a screen: its number and its cursor
abbrev pub screen_heading_line : ℕ → ℕ → ℕ → List ℕ
screen_heading_line number line column = codes "screen " ++ (decimal number ++ (codes " cursor " ++ (decimal line ++ (codes " " ++ (decimal column ++ codes "\n")))))

-- one unit that stopped after two ticks, with one screen; the cursor is right after the item, at most in column 80
abbrev pub small_report : ℕ → ℕ → List ℕ → List ℕ
small_report line column bytes =
    codes "unit 1 stopped ticks 2 screens 1\n"
    ++ (screen_heading_line 1 line (min (column + length bytes) 80) ++ screen_lines 24 (screen_bytes line column bytes))

-- what `check` prints
abbrev pub in_profile : List ℕ
in_profile = codes "in profile\n"

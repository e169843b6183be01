-- Places that are on the screen, and ends that are known.
use Rattle.std.proofs.Common.{◌≡◌, ℕ, ◌+◌, ◌-◌, ◌≤◌, refl, sym, ◌∙◌, ap, subst, arith, Bool, true, false, ◌&&◌, ◌||◌, ◌==◌, Option, Some, None, List}
use Rattle.std.specs.Prelude.{if◌then◌else◌, nat_le}
use Rattle.std.proofs.lemmas.Bool.Decides.{nat_tests}
use Rattle.cob_base.specs.declared.screen_entries.Position.{Position}
use Rattle.cob_base.specs.declared.screen_entries.Position.TheVariants as p
use Rattle.data_layout.specs.Rows.{rank}
use Rattle.screen_layout.specs.declared.place.Spot.{Spot}
use Rattle.screen_layout.specs.declared.place.Spot.TheVariants.{On, Off}
use Rattle.screen_layout.specs.declared.place.Start.{Start}
use Rattle.screen_layout.specs.declared.place.End.{End}
use Rattle.screen_rows.specs.declared.row.ScreenRow.{ScreenRow}
use Rattle.screen_layout.specs.Placing.{spot_of, counted_from, line_at, column_at, start_of, is_end_off, known, last_column, end_of, no_item, begun, is_off, is_start_off, given}

-- both parts of an end are known
pub record IsKnown (before : End) : Type 0 where
  pub line : (number : ℕ) × (before.line ≡ Some number)
  pub column : (number : ℕ) × (before.column ≡ Some number)

pub no_item-known : IsKnown no_item
no_item-known = record { line = (1, refl); column = (0, refl) }

begins : (b : Bool) (before : End) → IsKnown before → IsKnown (if b then no_item else before)
begins true before h = no_item-known
begins false before h = h

pub begun-known : (before : End) (row : ScreenRow) → IsKnown before → IsKnown (begun before row)
begun-known before row h = begins (rank row.level == 1) before h

-- a number within its bounds is on the screen
pub record IsOn (most : ℕ) (spot : Spot) : Type 0 where
  pub number : ℕ
  pub is_on : spot ≡ On number
  pub low : 1 ≤ number
  pub high : number ≤ most

low_of : (m n : ℕ) → nat_le m n ≡ true → m ≤ n
low_of m n h = grind (arith, nat_tests)

within : (a b : Bool) (most number : ℕ) → nat_le 1 number ≡ a → nat_le number most ≡ b → is_off (if a && b then On number else Off) ≡ false → IsOn most (if a && b then On number else Off)
within true true most number e f h = record { number = number; is_on = refl; low = low_of 1 number e; high = low_of number most f }
within true false most number e f h = cc
within false b most number e f h = cc

pub spot_on : (most number : ℕ) → is_off (spot_of most number) ≡ false → IsOn most (spot_of most number)
spot_on most number h = within (nat_le 1 number) (nat_le number most) most number refl refl h

counted_on : (most before : ℕ) (position : Position) → is_off (counted_from most (Some before) position) ≡ false → IsOn most (counted_from most (Some before) position)
counted_on most before (p.At number) h = spot_on most number h
counted_on most before (p.Plus number) h = spot_on most (before + number) h
counted_on most before (p.Minus number) h = spot_on most (before - number) h

line_known : (number : ℕ) (column : Option ℕ) (line : Option Position) → is_off (line_at (record { line = Some number; column = column }) line) ≡ false → IsOn 24 (line_at (record { line = Some number; column = column }) line)
line_known number column None h = spot_on 24 number h
line_known number column (Some position) h = counted_on 24 number position h

column_known : (number : ℕ) (before : Option ℕ) (line column : Option Position) → is_off (column_at (record { line = before; column = Some number }) line column) ≡ false → IsOn 81 (column_at (record { line = before; column = Some number }) line column)
column_known number before line (Some position) h = counted_on 81 number position h
column_known number before (Some position) None h = record { number = 1; is_on = refl; low = omega arith; high = omega arith }
column_known number before None None h = spot_on 81 (number + 1) h

-- by a known end an item that is not off the screen is on it
pub line_on : (before : End) (line : Option Position) → IsKnown before → is_off (line_at before line) ≡ false → IsOn 24 (line_at before line)
line_on before line k h =
    let e : before ≡ record { line = Some k.line.0; column = before.column } = ap (λ l. record { line = l; column = before.column }) k.line.1 in
    subst (λ (b : End). IsOn 24 (line_at b line)) (sym e) (line_known k.line.0 before.column line (ap (λ b. is_off (line_at b line)) (sym e) ∙ h))

pub column_on : (before : End) (line column : Option Position) → IsKnown before → is_off (column_at before line column) ≡ false → IsOn 81 (column_at before line column)
column_on before line column k h =
    let e : before ≡ record { line = before.line; column = Some k.column.0 } = ap (λ l. record { line = before.line; column = l }) k.column.1 in
    subst (λ (b : End). IsOn 81 (column_at b line column)) (sym e) (column_known k.column.0 before.line line column (ap (λ b. is_off (column_at b line column)) (sym e) ∙ h))

neither : (a b : Bool) → (a || b) ≡ false → (a ≡ false) × (b ≡ false)
neither false false h = (refl, refl)
neither false true h = cc
neither true b h = cc

-- a start on the screen, from which the item does not run off
pub record IsGoodStart (start : Start) (size : Option ℕ) : Type 0 where
  pub line : IsOn 24 start.line
  pub column : IsOn 81 start.column
  pub fits : is_end_off start.column size ≡ false

pub good_start : (before : End) (rows : List ScreenRow) (row : ScreenRow) → IsKnown before → is_start_off (start_of before rows row) row.size ≡ false → IsGoodStart (start_of before rows row) row.size
good_start before rows row k h =
    let start = start_of before rows row in
    let two = neither (is_off start.line || is_off start.column) (is_end_off start.column row.size) h in
    let one = neither (is_off start.line) (is_off start.column) two.0 in
    record { line = line_on before (given (λ r. r.own.line) rows row) k one.0; column = column_on before (given (λ r. r.own.line) rows row) (given (λ r. r.own.column) rows row) k one.1; fits = two.1 }

last_known : (column size : ℕ) → is_end_off (On column) (Some size) ≡ false → (last : ℕ) × (last_column (On column) (Some size) ≡ Some last)
last_known column size h = (column + size - 1, rw h refl)

-- the end of such an item is known
pub end_known : (start : Start) (size : ℕ) → IsGoodStart start (Some size) → IsKnown (end_of start (Some size))
end_known start size g =
    let fits : is_end_off (On g.column.number) (Some size) ≡ false = ap (λ s. is_end_off s (Some size)) (sym g.column.is_on) ∙ g.fits in
    let last = last_known g.column.number size fits in
    record { line = (g.line.number, ap known g.line.is_on); column = (last.0, ap (λ s. last_column s (Some size)) g.column.is_on ∙ last.1) }

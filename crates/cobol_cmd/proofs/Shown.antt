-- The bytes of a screen on which one item was painted.
use Rattle.std.proofs.Common.{◌≡◌, ℕ, suc, zero, ◌+◌, ◌-◌, ◌<◌, ◌≤◌, List, [], ◌∷◌, ◌++◌, length, refl, sym, ◌∙◌, ap, Bool, true, false, arith, inl, inr, ◌⊎◌, replicate, subst}
use Rattle.std.specs.Prelude.{Option, Some, None, map, slice_get, slice_index, if◌then◌else◌, nat_le, nat_lt, ◌&&◌}
use Rattle.std.specs.Option.{option_map}
use Rattle.std.proofs.lemmas.List.{length-replicate, length-map}
use Rattle.std.proofs.lemmas.Bool.{le-leb, lt-ltb, lt-leb, le-ltb}
use Rattle.screen_cells.specs.declared.cell.Cell.{Cell}
use Rattle.screen_cells.specs.declared.cell.Style.{Style}
use Rattle.screen_cells.specs.Cells.{Painted, blank_cells, blank_cell, cell_count, cell_number, painted_cell, shown_byte}

pub same_lists : {A : Type 0} (xs ys : List A) → ((n : ℕ) → slice_get xs n ≡ slice_get ys n) → xs ≡ ys
same_lists [] [] same = refl
same_lists [] (y ∷ ys) same = absurd (cc (same 0))
same_lists (x ∷ xs) [] same = absurd (cc (same 0))
same_lists (x ∷ xs) (y ∷ ys) same =
    let heads : Some x ≡ Some y = same 0 in
    let head : x ≡ y = cc heads in
    let tail : xs ≡ ys = same_lists xs ys (λ n. same (suc n)) in
    cc (head, tail)

pub get-map : {A B : Type 0} (f : A → B) (xs : List A) (n : ℕ) → slice_get (map f xs) n ≡ option_map f (slice_get xs n)
get-map f [] n = refl
get-map f (x ∷ xs) zero = refl
get-map f (x ∷ xs) (suc n) = get-map f xs n

pub get-replicate : {A : Type 0} (x : A) (count n : ℕ) → n < count → slice_get (replicate count x) n ≡ Some x
get-replicate x zero n within = absurd (omega arith)
get-replicate x (suc count) zero within = refl
get-replicate x (suc count) (suc n) within = get-replicate x count n (omega (arith, within))

pub get-replicate_past : {A : Type 0} (x : A) (count n : ℕ) → count ≤ n → slice_get (replicate count x) n ≡ None
get-replicate_past x zero n past = refl
get-replicate_past x (suc count) zero past = absurd (omega arith)
get-replicate_past x (suc count) (suc n) past = get-replicate_past x count n (omega (arith, past))

pub get-front : {A : Type 0} (xs ys : List A) (n : ℕ) → n < length xs → slice_get (xs ++ ys) n ≡ slice_get xs n
get-front [] ys n within = absurd (omega arith)
get-front (x ∷ xs) ys zero within = refl
get-front (x ∷ xs) ys (suc n) within = get-front xs ys n (omega (arith, within))

pub get-behind : {A : Type 0} (xs ys : List A) (n : ℕ) → length xs ≤ n → slice_get (xs ++ ys) n ≡ slice_get ys (n - length xs)
get-behind [] ys n past = ap (slice_get ys) (omega arith)
get-behind (x ∷ xs) ys zero past = absurd (omega arith)
get-behind (x ∷ xs) ys (suc n) past = get-behind xs ys n (omega (arith, past)) ∙ ap (slice_get ys) (omega arith)

pub get-index : (xs : List ℕ) (n : ℕ) → n < length xs → slice_get xs n ≡ Some (slice_index xs n)
get-index [] n within = absurd (omega arith)
get-index (x ∷ xs) zero within = refl
get-index (x ∷ xs) (suc n) within = get-index xs n (omega (arith, within))

pub below_or_not : (n end : ℕ) → (n < end) ⊎ (end ≤ n)
below_or_not n end = grind arith

-- the bytes of a blank screen on which bytes were painted
module _ (first : ℕ) (style : Style) (bytes : List ℕ) (new : List Cell) (fits : first + length bytes ≤ cell_count) (painted : Painted first style bytes blank_cells new) where
  abbrev rest : List ℕ
  rest = replicate (cell_count - (first + length bytes)) 32

  abbrev middle : List ℕ
  middle = map (shown_byte style.secure) bytes

  abbrev whole : List ℕ
  whole = replicate first 32 ++ (middle ++ rest)

  cell_there : (n : ℕ) (cell : Cell) → slice_get new n ≡ Some cell → slice_get (map (λ (cell : Cell). cell.byte) new) n ≡ Some cell.byte
  cell_there n cell found = get-map {A = Cell} {B = ℕ} (λ (cell : Cell). cell.byte) new n ∙ ap (option_map (λ (cell : Cell). cell.byte)) found

  before_it : (n : ℕ) → n < first → slice_get (map (λ (cell : Cell). cell.byte) new) n ≡ slice_get whole n
  before_it n low =
      let below : nat_le first n ≡ false = lt-leb first n low in
      let cell : slice_get new n ≡ Some blank_cell = painted.each n ∙ rw below (get-replicate blank_cell cell_count n (omega (arith, fits, low))) in
      cell_there n blank_cell cell ∙ sym (get-front (replicate first 32) (middle ++ rest) n (omega (arith, low, length-replicate {A = ℕ} first 32)) ∙ get-replicate 32 first n low)

  in_it : (n : ℕ) → first ≤ n → n < first + length bytes → slice_get (map (λ (cell : Cell). cell.byte) new) n ≡ slice_get whole n
  in_it n low high =
      let at_least : nat_le first n ≡ true = le-leb first n low in
      let below : nat_lt n (first + length bytes) ≡ true = lt-ltb n (first + length bytes) high in
      let cell : slice_get new n ≡ Some (painted_cell style (slice_index bytes (n - first))) = painted.each n ∙ rw (at_least, below) refl in
      let place : n - length (replicate first 32) ≡ n - first = ap (λ (k : ℕ). n - k) (length-replicate {A = ℕ} first 32) in
      let there : slice_get whole n ≡ slice_get middle (n - first) =
      get-behind (replicate first 32) (middle ++ rest) n (omega (arith, low, length-replicate {A = ℕ} first 32))
      ∙ ap (slice_get (middle ++ rest)) place
      ∙ get-front middle rest (n - first) (omega (arith, low, high, length-map bytes (shown_byte style.secure))) in
      let byte : slice_get middle (n - first) ≡ Some (shown_byte style.secure (slice_index bytes (n - first))) =
      get-map (shown_byte style.secure) bytes (n - first) ∙ ap (option_map (shown_byte style.secure)) (get-index bytes (n - first) (omega (arith, low, high))) in
      cell_there n (painted_cell style (slice_index bytes (n - first))) cell ∙ sym (there ∙ byte)

  behind_it : (n : ℕ) → first + length bytes ≤ n → slice_get (map (λ (cell : Cell). cell.byte) new) n ≡ slice_get whole n
  behind_it n past =
      let at_least : nat_le first n ≡ true = le-leb first n (omega (arith, past)) in
      let above : nat_lt n (first + length bytes) ≡ false = le-ltb n (first + length bytes) past in
      let cell : slice_get new n ≡ slice_get blank_cells n = painted.each n ∙ rw (at_least, above) refl in
      let middle_len = length-map bytes (shown_byte style.secure) in
      let place : n - first - length middle ≡ n - (first + length bytes) = omega (arith, middle_len, past) in
      let there : slice_get whole n ≡ slice_get rest (n - (first + length bytes)) =
      get-behind (replicate first 32) (middle ++ rest) n (omega (arith, past, length-replicate {A = ℕ} first 32))
      ∙ ap (λ (k : ℕ). slice_get (middle ++ rest) (n - k)) (length-replicate {A = ℕ} first 32)
      ∙ get-behind middle rest (n - first) (omega (arith, middle_len, past)) ∙ ap (slice_get rest) place in
      elim (below_or_not n cell_count) [
        | inl within ↦ cell_there n blank_cell (cell ∙ get-replicate blank_cell cell_count n within)
            ∙ sym (there ∙ get-replicate 32 (cell_count - (first + length bytes)) (n - (first + length bytes)) (omega (arith, within, past)))
        | inr without ↦ get-map {A = Cell} {B = ℕ} (λ (cell : Cell). cell.byte) new n ∙ ap (option_map (λ (cell : Cell). cell.byte)) (cell ∙ get-replicate_past blank_cell cell_count n without)
            ∙ sym (there ∙ get-replicate_past 32 (cell_count - (first + length bytes)) (n - (first + length bytes)) (omega (arith, without, past)))
      ]

  pub bytes_shown : map (λ (cell : Cell). cell.byte) new ≡ whole
  bytes_shown = same_lists (map (λ (cell : Cell). cell.byte) new) whole (λ n.
      elim (below_or_not n first) [
        | inl low ↦ before_it n low
        | inr high ↦ elim (below_or_not n (first + length bytes)) [ inl within ↦ in_it n high within | inr past ↦ behind_it n past ]
      ])

pub painted_over : (first : ℕ) (style : Style) (bytes : List ℕ) (old new : List Cell) → first + length bytes ≤ cell_count → old ≡ blank_cells → Painted first style bytes old new
    → map (λ (cell : Cell). cell.byte) new ≡ replicate first 32 ++ (map (shown_byte style.secure) bytes ++ replicate (cell_count - (first + length bytes)) 32)
painted_over first style bytes old new fits is painted =
    let P : List Cell → Type 0 = λ cells. Painted first style bytes cells new in
    bytes_shown first style bytes new fits (subst P is painted)

-- bytes that run to column 80 at most lie on the screen
pub fits_on_screen : (line column count : ℕ) → 1 ≤ line → line ≤ 24 → 1 ≤ column → column + count ≤ 81 → cell_number line column + count ≤ cell_count
fits_on_screen line column count first_line last_line first_column last_column = omega arith

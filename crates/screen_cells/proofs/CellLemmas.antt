-- Cells that are written one after the other.
use Rattle.std.proofs.Common.{◌≡◌, ◌≢◌, ℕ, suc, zero, ◌+◌, ◌-◌, ◌*◌, ◌<◌, ◌≤◌, List, [], ◌∷◌, length, refl, sym, ◌∙◌, ap, true, false, arith, inl, inr, ◌⊎◌}
use Rattle.std.specs.Prelude.{Option, Some, if◌then◌else◌, slice_set, slice_get, nat_le, nat_lt, ◌&&◌}
use Rattle.std.proofs.lemmas.Bool.{cases_Bool, le-leb, lt-ltb, lt-leb, le-ltb}
use Rattle.screen_cells.specs.declared.cell.Cell.{Cell}

pub get-set_same : (cells : List Cell) (i : ℕ) (cell : Cell) → i < length cells → slice_get (slice_set cells i cell) i ≡ Some cell
get-set_same [] i cell within = absurd (omega arith)
get-set_same (x ∷ xs) zero cell within = refl
get-set_same (x ∷ xs) (suc i) cell within = get-set_same xs i cell (omega (arith, within))

pub get-set_other : (cells : List Cell) (i j : ℕ) (cell : Cell) → j ≢ i → slice_get (slice_set cells i cell) j ≡ slice_get cells j
get-set_other [] i j cell differs = refl
get-set_other (x ∷ xs) zero zero cell differs = absurd (differs refl)
get-set_other (x ∷ xs) zero (suc j) cell differs = refl
get-set_other (x ∷ xs) (suc i) zero cell differs = refl
get-set_other (x ∷ xs) (suc i) (suc j) cell differs = get-set_other xs i j cell (λ same. differs (ap suc same))

pub below_or_not : (n end : ℕ) → (n < end) ⊎ (end ≤ n)
below_or_not n end = grind arith

pub lt_eq_gt : (n end : ℕ) → (n < end) ⊎ ((n ≡ end) ⊎ (end < n))
lt_eq_gt n end = grind arith

-- the cell at a number, where so many from the first on were written
abbrev pub written : {A : Type 0} → ℕ → ℕ → (ℕ → A) → List A → ℕ → Option A
written first end value old n = if nat_le first n && nat_lt n end then Some (value n) else slice_get old n

pub written_in : {A : Type 0} (first end : ℕ) (value : ℕ → A) (old : List A) (n : ℕ) → first ≤ n → n < end → written first end value old n ≡ Some (value n)
written_in first end value old n low high =
    let is_low : nat_le first n ≡ true = le-leb first n low in
    let is_high : nat_lt n end ≡ true = lt-ltb n end high in
    rw (is_low, is_high) refl

pub written_below : {A : Type 0} (first end : ℕ) (value : ℕ → A) (old : List A) (n : ℕ) → n < first → written first end value old n ≡ slice_get old n
written_below first end value old n low =
    let is_low : nat_le first n ≡ false = lt-leb first n low in
    rw is_low refl

pub written_above : {A : Type 0} (first end : ℕ) (value : ℕ → A) (old : List A) (n : ℕ) → end ≤ n → written first end value old n ≡ slice_get old n
written_above first end value old n high =
    let is_high : nat_lt n end ≡ false = le-ltb n end high in
    elim (cases_Bool (nat_le first n)) [
      | inl low ↦ rw (low, is_high) refl
      | inr low ↦ rw low refl
    ]

pub one_more : (first end : ℕ) (value : ℕ → Cell) (old cells : List Cell) (cell : Cell) → first ≤ end → end < length cells → cell ≡ value end
    → ((n : ℕ) → slice_get cells n ≡ written first end value old n) → (n : ℕ) → slice_get (slice_set cells end cell) n ≡ written first (end + 1) value old n
one_more first end value old cells cell ordered within is so_far n = elim (lt_eq_gt n end) [
  | inl below ↦
      get-set_other cells end n cell (λ same. absurd (omega (arith, below, same))) ∙ so_far n ∙ elim (below_or_not n first) [
        | inl low ↦ written_below first end value old n low ∙ sym (written_below first (end + 1) value old n low)
        | inr high ↦ written_in first end value old n high below ∙ sym (written_in first (end + 1) value old n high (omega (arith, below)))
      ]
  | inr (inl same) ↦
      let first_n : first ≤ n = omega (arith, ordered, same) in
      let below_next : n < end + 1 = omega (arith, same) in
      ap (slice_get (slice_set cells end cell)) same ∙ get-set_same cells end cell within ∙ ap (λ (c : Cell). Some c) (is ∙ ap value (sym same)) ∙ sym (written_in first (end + 1) value old n first_n below_next)
  | inr (inr above) ↦
      get-set_other cells end n cell (λ same. absurd (omega (arith, above, same))) ∙ so_far n
      ∙ written_above first end value old n (omega (arith, above)) ∙ sym (written_above first (end + 1) value old n (omega (arith, above)))
]

-- the same where the end is so many from the first on
pub one_more_byte : (first at : ℕ) (value : ℕ → Cell) (old cells : List Cell) (cell : Cell) → first + at < length cells → cell ≡ value (first + at)
    → ((n : ℕ) → slice_get cells n ≡ written first (first + at) value old n) → (n : ℕ) → slice_get (slice_set cells (first + at) cell) n ≡ written first (first + (at + 1)) value old n
one_more_byte first at value old cells cell within is so_far n =
    let next : first + (at + 1) ≡ first + at + 1 = omega arith in
    rw next (one_more first (first + at) value old cells cell (omega arith) within is so_far n)

pub past_the_first : (first at : ℕ) → first + at - first ≡ at
past_the_first first at = omega arith

-- a place on the screen from which bytes run to column 80 at most
pub on_the_screen : (line column at count total : ℕ) → 1 ≤ line → line ≤ 24 → 1 ≤ column → column + count ≤ 81 → at < count → total ≡ 1920 → (line - 1) * 80 + (column - 1) + at < total
on_the_screen line column at count total first_line last_line first_column fits within whole = omega arith

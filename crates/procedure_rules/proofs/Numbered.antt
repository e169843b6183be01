-- The number of an item's row is its place among the items.
use Rattle.std.proofs.Common.{◌≡◌, ◌∙◌, sym, ap, subst, arith, ℕ, zero, suc, ◌+◌, ◌<◌, Bool, true, false, List, [], ◌∷◌, ◌++◌, map, length, get_or, Some}
use Rattle.std.specs.Prelude.{slice_get}
use Rattle.cob_base.specs.declared.divisions.Front.{Front}
use Rattle.cob_base.specs.declared.data_entries.DataEntry.{DataEntry}
use Rattle.cob_base.specs.declared.data_entries.DataEntry.TheVariants.{Item, Condition}
use Rattle.data_layout.specs.declared.row.Row.{Row}
use Rattle.data_layout.specs.declared.row.Described.{Described}
use Rattle.data_layout.specs.Rows.{AreRows, AreAllRows, Section, sections}
use Rattle.data_names.specs.Items.{DataItem, AreDataItems}
use Rattle.data_names.specs.Spots.{Spot, spots, spots_after, spot_of}
use Rattle.std.proofs.lemmas.List.{get_or-map, length-map}

-- rows whose numbers count on from a number
abbrev AreFrom : ℕ → List Row → Type 0
AreFrom n [] = Unit
AreFrom n (row ∷ rows) = (row.number ≡ n) × AreFrom (n + 1) rows

from_both : (n : ℕ) (xs ys : List Row) → AreFrom n xs → AreFrom (n + length xs) ys → AreFrom n (xs ++ ys)
from_both n [] ys a b = subst (λ (m : ℕ). AreFrom m ys) (omega arith) b
from_both n (x ∷ xs) ys a b = (a.0, from_both (n + 1) xs ys a.1 (let same : n + suc (length xs) ≡ (n + 1) + length xs = omega arith in subst (λ (m : ℕ). AreFrom m ys) same b))

rows_from : (in_file starts : Bool) (n : ℕ) (entries : List DataEntry) (rows : List Row) (texts : List Described) → AreRows in_file starts n entries rows texts → AreFrom n rows
rows_from in_file starts n [] rows texts h = subst (λ (r : List Row). AreFrom n r) (sym h.0) tt
rows_from in_file starts n (Condition entry ∷ rest) rows texts h = rows_from in_file starts n rest rows texts h
rows_from in_file starts n (Item entry ∷ rest) rows texts h =
    subst (λ (r : List Row). AreFrom n r) (sym h.6) (h.4.number, rows_from in_file false (n + 1) rest h.2 h.3 h.5)

all_from : (n : ℕ) (all : List Section) (rows : List Row) (texts : List Described) → AreAllRows n all rows texts → AreFrom n rows
all_from n [] rows texts h = subst (λ (r : List Row). AreFrom n r) (sym h.0) tt
all_from n (section ∷ later) rows texts h =
    subst (λ (r : List Row). AreFrom n r) (sym h.6) (from_both n h.0 h.2 (rows_from section.in_file true n section.entries h.0 h.1 h.4) (all_from (n + length h.0) later h.2 h.3 h.5))

number_at : (n : ℕ) (rows : List Row) (k : ℕ) (d : Row) → AreFrom n rows → k < length rows → (get_or rows k d).number ≡ n + k
number_at n [] k d h below = elim below [ ]
number_at n (row ∷ rows) zero d h below = h.0 ∙ (omega arith)
number_at n (row ∷ rows) (suc k) d h below = number_at (n + 1) rows k d h.1 (omega (arith, below)) ∙ (omega arith)

-- the item of a spot is that at its place
record Standing {A : Type 0} (items : List A) (k : ℕ) (item : A) : Type 0 where
  within : k < length items
  is : item ≡ get_or items k item

standing : {A : Type 0} (before items : List A) (k : ℕ) (spot : Spot A) → slice_get (spots_after before items) k ≡ Some spot → Standing items k spot.item
standing before [] k spot e = absurd (none_is_no_some k spot e)
  where
    none_is_no_some : {A : Type 0} (k : ℕ) (spot : Spot A) → slice_get [] k ≡ Some spot → ⊥
    none_is_no_some k spot e = cc
standing before (x ∷ items) zero spot e = let same : spot_of before x items ≡ spot = cc in record { within = omega arith; is = ap (λ (one : Spot _). one.item) (sym same) }
standing before (x ∷ items) (suc k) spot e = let rest = standing (before ++ x ∷ []) items k spot e in record { within = omega (arith, rest.within); is = rest.is }

-- the number of an item is its place
pub numbered : (front : Front) (items : List DataItem) (k : ℕ) (spot : Spot DataItem) → AreDataItems front items → slice_get (spots items) k ≡ Some spot → spot.item.row.number ≡ k
numbered front items k spot h e =
    let stands = standing [] items k spot e in
    let rows = map (λ item. item.row) items in
    let at_row : get_or rows k spot.item.row ≡ spot.item.row = get_or-map (λ item. item.row) items k spot.item spot.item.row stands.within ∙ ap (λ item. item.row) (sym stands.is) in
    let number : (get_or rows k spot.item.row).number ≡ 0 + k = number_at 0 rows k spot.item.row (all_from 0 (sections front) rows _ h.rows) (omega (arith, stands.within, length-map items (λ item. item.row))) in
    ap (λ row. row.number) (sym at_row) ∙ number ∙ (omega arith)

-- Whether each item can hold its VALUE, item by item.
use Rattle.std.proofs.Common.{◌≡◌, ℕ, ◌+◌, ◌<◌, ◌≤◌, ◌&&◌, zero, suc, refl, sym, ◌∙◌, ap, arith, true, false, List, [], ◌∷◌, length, drop, get_or}
use Rattle.std.specs.List.{AllZip}
use Rattle.data_layout.specs.declared.layout.Item.{Item}
use Rattle.data_names.specs.Items.{DataItem}
use Rattle.opening_storage.specs.Opening.{CanHold}
use Rattle.opening_storage.specs.Filling.{all_hold, holds}
use Rattle.opening_storage.proofs.Groups.{both, both_are, not_both}

-- from a place on: this item, and the others
pub hold_at : (items : List DataItem) (places : List Item) (k : ℕ) (item : DataItem) (place : Item) → k < length items → k < length places → item ≡ get_or items k item → place ≡ get_or places k place
    → all_hold (drop k items) (drop k places) ≡ (holds item place && all_hold (drop (k + 1) items) (drop (k + 1) places))
hold_at [] places k item place l m i p = absurd (omega arith)
hold_at (x ∷ items) [] k item place l m i p = absurd (omega arith)
hold_at (x ∷ items) (y ∷ places) zero item place l m i p = ap (λ z. holds z y && all_hold items places) (sym i) ∙ ap (λ z. holds item z && all_hold items places) (sym p)
hold_at (x ∷ items) (y ∷ places) (suc k) item place l m i p =
    let e : suc k + 1 ≡ suc (k + 1) = omega arith in
    hold_at items places k item place (omega arith) (omega arith) i p ∙ ap (λ n. holds item place && all_hold (drop n (x ∷ items)) (drop n (y ∷ places))) (sym e)

-- with other numbers of items and places
pub hold_other : (items : List DataItem) (places : List Item) → (length items ≡ length places → ⊥) → all_hold items places ≡ false
hold_other [] [] h = absurd (h refl)
hold_other [] (y ∷ places) h = refl
hold_other (x ∷ items) [] h = refl
hold_other (x ∷ items) (y ∷ places) h = not_both (holds x y) (all_hold items places) (hold_other items places (λ e. h (ap suc e)))

-- behind the last item
pub hold_end : (items : List DataItem) (places : List Item) (k : ℕ) → length items ≡ length places → length items ≤ k → all_hold (drop k items) (drop k places) ≡ true
hold_end [] [] zero e m = refl
hold_end [] [] (suc k) e m = refl
hold_end [] (y ∷ places) k e m = absurd (omega arith)
hold_end (x ∷ items) places zero e m = absurd (omega arith)
hold_end (x ∷ items) [] (suc k) e m = absurd (omega arith)
hold_end (x ∷ items) (y ∷ places) (suc k) e m = hold_end items places k (omega arith) (omega arith)

pub all_held : (items : List DataItem) (places : List Item) → all_hold items places ≡ true → AllZip CanHold items places
all_held [] [] h = tt
all_held [] (y ∷ places) h = cc
all_held (x ∷ items) [] h = cc
all_held (x ∷ items) (y ∷ places) h = let parts = both (holds x y) (all_hold items places) h in (parts.0, all_held items places parts.1)

pub held_all : (items : List DataItem) (places : List Item) → AllZip CanHold items places → all_hold items places ≡ true
held_all [] [] h = refl
held_all [] (y ∷ places) h = absurd h
held_all (x ∷ items) [] h = absurd h
held_all (x ∷ items) (y ∷ places) h = both_are (holds x y) (all_hold items places) h.0 (held_all items places h.1)

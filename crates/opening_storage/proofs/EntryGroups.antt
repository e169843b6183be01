-- Which rows of a program's entries are groups: those that members follow.
use Rattle.std.proofs.Common.{◌≡◌, ℕ, ◌+◌, ◌&&◌, sym, ◌∙◌, ap, subst, Bool, true, false, List, [], ◌∷◌, ◌++◌, length}
use Rattle.std.specs.Prelude.{not, nat_lt}
use Rattle.cob_base.specs.declared.data_entries.DataEntry.{DataEntry}
use Rattle.cob_base.specs.declared.data_entries.DataEntry.TheVariants.{Item, Condition}
use Rattle.data_layout.specs.declared.row.Row.{Row}
use Rattle.data_layout.specs.declared.row.Described.{Described}
use Rattle.data_layout.specs.Rows.{rank, next_level, is_above, AreRows, AreAllRows, Section}
use Rattle.data_layout.specs.Storage.{goes_on}
use Rattle.opening_storage.proofs.Groups.{not_both}

-- ---- groups

-- the next row does not go on in this one
abbrev pub LeavesRow : Row → List Row → Type 0
LeavesRow row [] = Unit {0}
LeavesRow row (next ∷ later) = goes_on row next ≡ false

abbrev pub Grouped : List Row → Type 0
Grouped [] = Unit {0}
Grouped (row ∷ later) = (row.group ≡ false → LeavesRow row later) × Grouped later

-- a section begins
abbrev pub Fresh : List Row → Type 0
Fresh [] = Unit {0}
Fresh (row ∷ later) = row.starts ≡ true

leaves_fresh : (row : Row) (later : List Row) → Fresh later → LeavesRow row later
leaves_fresh row [] h = tt
leaves_fresh row (next ∷ later) h = ap (λ b. not b && nat_lt (rank row.level) (rank next.level)) h

leaves_next : (in_file : Bool) (n : ℕ) (entries : List DataEntry) (rows : List Row) (texts : List Described) (row : Row) (later : List Row) → AreRows in_file false n entries rows texts
    → is_above row.level (next_level entries) ≡ false → Fresh later → LeavesRow row (rows ++ later)
leaves_next in_file n [] rows texts row later h e f = subst (λ xs. LeavesRow row (xs ++ later)) (sym h.0) (leaves_fresh row later f)
leaves_next in_file n (Condition entry ∷ rest) rows texts row later h e f = leaves_next in_file n rest rows texts row later h e f
leaves_next in_file n (Item entry ∷ rest) rows texts row later h e f =
    let level : nat_lt (rank row.level) (rank h.0.level) ≡ false = ap (λ l. nat_lt (rank row.level) (rank l)) h.4.level ∙ e in
    subst (λ xs. LeavesRow row (xs ++ later)) (sym h.6) (not_both (not h.0.starts) (nat_lt (rank row.level) (rank h.0.level)) level)

grouped_rows : (in_file starts : Bool) (n : ℕ) (entries : List DataEntry) (rows : List Row) (texts : List Described) (later : List Row) → AreRows in_file starts n entries rows texts → Fresh later → Grouped later
    → Grouped (rows ++ later)
grouped_rows in_file starts n [] rows texts later h f g = subst (λ xs. Grouped (xs ++ later)) (sym h.0) g
grouped_rows in_file starts n (Condition entry ∷ rest) rows texts later h f g = grouped_rows in_file starts n rest rows texts later h f g
grouped_rows in_file starts n (Item entry ∷ rest) rows texts later h f g =
    subst (λ xs. Grouped (xs ++ later)) (sym h.6) (
      λ e.
          leaves_next in_file (n + 1) rest h.2 h.3 h.0 later h.5
          (ap (λ l. is_above l (next_level rest)) h.4.level ∙ sym h.4.group ∙ e) f,
      grouped_rows in_file false (n + 1) rest h.2 h.3 later h.5 f g,
    )

fresh_rows : (in_file : Bool) (n : ℕ) (entries : List DataEntry) (rows : List Row) (texts : List Described) (later : List Row) → AreRows in_file true n entries rows texts → Fresh later → Fresh (rows ++ later)
fresh_rows in_file n [] rows texts later h f = subst (λ xs. Fresh (xs ++ later)) (sym h.0) f
fresh_rows in_file n (Condition entry ∷ rest) rows texts later h f = fresh_rows in_file n rest rows texts later h f
fresh_rows in_file n (Item entry ∷ rest) rows texts later h f = subst (λ xs. Fresh (xs ++ later)) (sym h.6) h.4.starts

fresh_all : (n : ℕ) (all : List Section) (rows : List Row) (texts : List Described) → AreAllRows n all rows texts → Fresh rows
fresh_all n [] rows texts h = subst Fresh (sym h.0) tt
fresh_all n (section ∷ others) rows texts h =
    subst Fresh (sym h.6) (fresh_rows section.in_file n section.entries h.0 h.1 h.2 h.4 (fresh_all (n + length h.0) others h.2 h.3 h.5))

pub grouped_all : (n : ℕ) (all : List Section) (rows : List Row) (texts : List Described) → AreAllRows n all rows texts → Grouped rows
grouped_all n [] rows texts h = subst Grouped (sym h.0) tt
grouped_all n (section ∷ others) rows texts h =
    subst Grouped (sym h.6)
    (grouped_rows section.in_file true n section.entries h.0 h.1 h.2 h.4 (fresh_all (n + length h.0) others h.2 h.3 h.5) (grouped_all (n + length h.0) others h.2 h.3 h.5))

-- The rows of a program's entries are numbered in order.
use Rattle.std.proofs.Common.{◌≡◌, ℕ, ◌+◌, sym, ◌∙◌, subst, arith, Bool, true, false, List, [], ◌∷◌, ◌++◌, length}
use Rattle.cob_base.specs.declared.data_entries.DataEntry.{DataEntry}
use Rattle.cob_base.specs.declared.data_entries.DataEntry.TheVariants.{Item, Condition}
use Rattle.data_layout.specs.declared.row.Row.{Row}
use Rattle.data_layout.specs.declared.row.Described.{Described}
use Rattle.data_layout.specs.Rows.{AreRows, AreAllRows, Section}
use Rattle.data_layout.specs.Placed.{NumberedFrom}

join_numbers : (n : ℕ) (a b : List Row) → NumberedFrom n a → NumberedFrom (n + length a) b → NumberedFrom n (a ++ b)
join_numbers n [] b h k = let e : n + 0 ≡ n = omega arith in subst (λ m. NumberedFrom m b) e k
join_numbers n (row ∷ a) b h k =
    let e : n + length (row ∷ a) ≡ (n + 1) + length a = omega arith in (h.0, join_numbers (n + 1) a b h.1 (subst (λ m. NumberedFrom m b) e k))

numbered_rows : (in_file starts : Bool) (n : ℕ) (entries : List DataEntry) (rows : List Row) (texts : List Described) → AreRows in_file starts n entries rows texts → NumberedFrom n rows
numbered_rows in_file starts n [] rows texts h = subst (NumberedFrom n) (sym h.0) tt
numbered_rows in_file starts n (Condition entry ∷ rest) rows texts h = numbered_rows in_file starts n rest rows texts h
numbered_rows in_file starts n (Item entry ∷ rest) rows texts h = subst (NumberedFrom n) (sym h.6) (h.4.number, numbered_rows in_file false (n + 1) rest h.2 h.3 h.5)

pub numbered_all : (n : ℕ) (all : List Section) (rows : List Row) (texts : List Described) → AreAllRows n all rows texts → NumberedFrom n rows
numbered_all n [] rows texts h = subst (NumberedFrom n) (sym h.0) tt
numbered_all n (section ∷ others) rows texts h =
    subst (NumberedFrom n) (sym h.6) (join_numbers n h.0 h.2 (numbered_rows section.in_file true n section.entries h.0 h.1 h.4) (numbered_all (n + length h.0) others h.2 h.3 h.5))

-- a row's number is how many stand before it
pub number_at : (n : ℕ) (ahead : List Row) (row : Row) (rest : List Row) → NumberedFrom n (ahead ++ row ∷ rest) → row.number ≡ n + length ahead
number_at n [] row rest h = h.0 ∙ omega arith
number_at n (other ∷ ahead) row rest h = number_at (n + 1) ahead row rest h.1 ∙ omega arith

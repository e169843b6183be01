-- A row that the next goes on in is a group's.
use Rattle.std.proofs.Common.{◌≡◌, ◌∙◌, refl, sym, ap, subst, ℕ, ◌+◌, Bool, true, false, not, ◌&&◌, nat_lt, List, [], ◌∷◌, ◌++◌, length, Some}
use Rattle.std.specs.List.{list_all}
use Rattle.cob_base.specs.declared.data_entries.DataEntry.{DataEntry}
use Rattle.cob_base.specs.declared.data_entries.DataEntry.TheVariants.{Item, Condition}
use Rattle.cob_base.specs.declared.data_entries.ItemEntry.{ItemEntry}
use Rattle.data_layout.specs.declared.row.Row.{Row}
use Rattle.data_layout.specs.declared.row.Described.{Described}
use Rattle.data_layout.specs.Rows.{IsRow, AreRows, AreAllRows, Section, rank, is_above, next_level}
use Rattle.data_layout.specs.Storage.{goes_on}

both : (a b : Bool) → (a && b) ≡ true → (a ≡ true) × (b ≡ true)
both true b h = (refl, h)
both false b h = cc h

-- a row before these is a group's where the first of them goes on in it
abbrev IsGrouped : Row → List Row → Type 0
IsGrouped row [] = Unit {0}
IsGrouped row (next ∷ rest) = goes_on row next ≡ true → row.group ≡ true

abbrev pub AreGrouped : List Row → Type 0
AreGrouped [] = Unit {0}
AreGrouped (row ∷ rest) = IsGrouped row rest × AreGrouped rest

-- the first of these begins a section
abbrev Begins : List Row → Type 0
Begins [] = Unit {0}
Begins (row ∷ rest) = row.starts ≡ true

-- the next item of some entries has the level of their first row
level_of_next : (in_file starts : Bool) (number : ℕ) (entries : List DataEntry) (first : Row) (more rows : List Row) (texts : List Described) → AreRows in_file starts number entries rows texts → rows ≡ first ∷ more
    → next_level entries ≡ Some first.level
level_of_next in_file starts number [] first more rows texts h e = cc (h.0, e)
level_of_next in_file starts number (Condition entry ∷ entries) first more rows texts h e = level_of_next in_file starts number entries first more rows texts h e
level_of_next in_file starts number (Item entry ∷ entries) first more rows texts h e =
    let two : ◌≡◌ {A = List Row} (h.0 ∷ h.2) (first ∷ more) = sym h.6 ∙ e in
    let same : h.0 ≡ first = cc two in
    ap Some (sym h.4.level ∙ ap (λ (row : Row). row.level) same)

not_begun : (row next : Row) → next.starts ≡ true → goes_on row next ≡ true → row.group ≡ true
not_begun row next e h = let parts = both (not next.starts) _ h in cc (e, parts.0)

grouped_row : (in_file starts first : Bool) (number at : ℕ) (entry : ItemEntry) (entries : List DataEntry) (row : Row) (text : Described) (more later : List Row) (others : List Described)
    → IsRow in_file first at entry entries row text → AreRows in_file starts number entries more others → Begins later → IsGrouped row (more ++ later)
grouped_row in_file starts first number at entry entries row text [] [] others r h b = tt
grouped_row in_file starts first number at entry entries row text [] (next ∷ later) others r h b = λ goes. not_begun row next b goes
grouped_row in_file starts first number at entry entries row text (next ∷ more) later others r h b = λ goes.
    let level = level_of_next in_file starts number entries next more (next ∷ more) others h refl in
    let parts = both (not next.starts) (nat_lt (rank row.level) (rank next.level)) goes in
    r.group ∙ ap (is_above entry.level) level ∙ ap (λ (n : ℕ). nat_lt (rank n) (rank next.level)) (sym r.level) ∙ parts.1

grouped_rows : (in_file starts : Bool) (number : ℕ) (entries : List DataEntry) (rows : List Row) (texts : List Described) (later : List Row) → AreRows in_file starts number entries rows texts → Begins later → AreGrouped later
    → AreGrouped (rows ++ later)
grouped_rows in_file starts number [] rows texts later h b g = subst (λ (front : List Row). AreGrouped (front ++ later)) (sym h.0) g
grouped_rows in_file starts number (Condition entry ∷ entries) rows texts later h b g = grouped_rows in_file starts number entries rows texts later h b g
grouped_rows in_file starts number (Item entry ∷ entries) rows texts later h b g =
    subst (λ (front : List Row). AreGrouped (front ++ later)) (sym h.6)
    (grouped_row in_file false starts (number + 1) number entry entries h.0 h.1 h.2 later h.3 h.4 h.5 b, grouped_rows in_file false (number + 1) entries h.2 h.3 later h.5 b g)

begun_rows : (in_file : Bool) (number : ℕ) (entries : List DataEntry) (rows : List Row) (texts : List Described) (later : List Row) → AreRows in_file true number entries rows texts → Begins later → Begins (rows ++ later)
begun_rows in_file number [] rows texts later h b = subst (λ (front : List Row). Begins (front ++ later)) (sym h.0) b
begun_rows in_file number (Condition entry ∷ entries) rows texts later h b = begun_rows in_file number entries rows texts later h b
begun_rows in_file number (Item entry ∷ entries) rows texts later h b = subst (λ (front : List Row). Begins (front ++ later)) (sym h.6) h.4.starts

begun_all : (number : ℕ) (all : List Section) (rows : List Row) (texts : List Described) → AreAllRows number all rows texts → Begins rows
begun_all number [] rows texts h = subst Begins (sym h.0) tt
begun_all number (section ∷ all) rows texts h =
    subst Begins (sym h.6) (begun_rows section.in_file number section.entries h.0 h.1 h.2 h.4 (begun_all (number + length h.0) all h.2 h.3 h.5))

pub grouped_all : (number : ℕ) (all : List Section) (rows : List Row) (texts : List Described) → AreAllRows number all rows texts → AreGrouped rows
grouped_all number [] rows texts h = subst AreGrouped (sym h.0) tt
grouped_all number (section ∷ all) rows texts h =
    subst AreGrouped (sym h.6)
    (grouped_rows section.in_file true number section.entries h.0 h.1 h.2 h.4 (begun_all (number + length h.0) all h.2 h.3 h.5) (grouped_all (number + length h.0) all h.2 h.3 h.5))

-- a row in which the next one goes on
pub grouped_at : (ahead : List Row) (row next : Row) (rest : List Row) → AreGrouped (ahead ++ row ∷ (next ∷ rest)) → goes_on row next ≡ true → row.group ≡ true
grouped_at [] row next rest h e = h.0 e
grouped_at (x ∷ ahead) row next rest h e = grouped_at ahead row next rest h.1 e

-- a row in which some go on is a group's
pub is_group : (ahead : List Row) (row : Row) (middle : List Row) (last : Row) (rest : List Row) → AreGrouped (ahead ++ row ∷ (middle ++ last ∷ rest)) → list_all (goes_on row) (middle ++ last ∷ []) ≡ true → row.group ≡ true
is_group ahead row [] last rest h e = grouped_at ahead row last rest h (both (goes_on row last) true e).0
is_group ahead row (next ∷ middle) last rest h e = grouped_at ahead row next (middle ++ last ∷ rest) h (both (goes_on row next) _ e).0

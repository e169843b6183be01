-- The faults of one more row.
use Rattle.std.proofs.Common.{◌≡◌, ℕ, ◌+◌, ◌<◌, ◌≤◌, refl, sym, ◌∙◌, ap, subst, arith, min, Bool, true, false, not, ◌&&◌, ◌||◌, ◌==◌, nat_le, nat_lt, inl, inr, List, [], ◌∷◌, ◌++◌, length, take, drop, get_or, append_assoc, append-nil, Option}
use Rattle.std.specs.Prelude.{is_some}
use Rattle.std.specs.List.{list_all}
use Rattle.std.proofs.lemmas.Bool.{cases_lt}
use Rattle.std.proofs.lemmas.Bool.Decides.{nat_tests}
use Rattle.std.proofs.Common.{add-one, drop-cons}
use Rattle.std.proofs.lemmas.List.{take_more, drop_all}
use Rattle.data_layout.specs.declared.judging.Judge.{Judge}
use Rattle.data_layout.specs.Judge.{IsJudged}
use Rattle.std.proofs.lemmas.List.Folds.{list_all-append}
use Rattle.data_layout.specs.declared.row.Row.{Row}
use Rattle.data_layout.specs.declared.fault.LayoutFault.{LayoutFault}
use Rattle.data_layout.specs.Rows.{rank}
use Rattle.data_layout.specs.Storage.{opened, storage, is_repeated, last_of}
use Rattle.data_layout.specs.Faults.{goes_deeper, level_fits, has_size, is_bad_level, has_bad_clauses, passes_storage, fault_where, row_faults, faults_after}
use Rattle.data_layout.specs.Best.{IsBest}
use Rattle.data_layout.specs.Walk.{any_level}

-- the rows from a place on
pub from_place : (rows : List Row) (i : ℕ) (d : Row) → i < length rows → drop i rows ≡ get_or rows i d ∷ drop (i + 1) rows
from_place rows i d h = rw (add-one, drop-cons rows i d)

-- one more row is judged
pub judged_more : (all : List LayoutFault) (rows : List Row) (i : ℕ) (d : Row) (judge : Judge) (found : List LayoutFault) (rest : List Row) → i < length rows → rest ≡ drop (i + 1) rows
    → all ≡ found ++ faults_after (take i rows) (drop i rows)
    → IsJudged (take i rows ++ get_or rows i d ∷ []) (found ++ row_faults (take i rows) (get_or rows i d) rest) judge
    → (more : List LayoutFault) × IsJudged (take (i + 1) rows) more judge × (all ≡ more ++ faults_after (take (i + 1) rows) (drop (i + 1) rows))
judged_more all rows i d judge found rest h r e k0 =
    let k = subst (λ (xs : List Row). IsJudged (take i rows ++ get_or rows i d ∷ []) (found ++ row_faults (take i rows) (get_or rows i d) xs) judge) r k0 in
    let f : all ≡ found ++ (row_faults (take i rows) (get_or rows i d) (drop (i + 1) rows) ++ faults_after (take i rows ++ get_or rows i d ∷ []) (drop (i + 1) rows)) =
    e ∙ ap (λ xs. found ++ faults_after (take i rows) xs) (from_place rows i d h) in (
      found ++ row_faults (take i rows) (get_or rows i d) (drop (i + 1) rows),
      rw (take_more rows i d h) k,
      rw (take_more rows i d h, append_assoc found (row_faults (take i rows) (get_or rows i d) (drop (i + 1) rows)) (faults_after (take i rows ++ get_or rows i d ∷ []) (drop (i + 1) rows))) f,
    )

-- all are judged
pub judged_all : (all : List LayoutFault) (rows : List Row) (i : ℕ) (judge : Judge) (found : List LayoutFault) → length rows ≤ i
    → all ≡ found ++ faults_after (take i rows) (drop i rows) → IsJudged (take i rows) found judge → IsBest all judge.best
judged_all all rows i judge found h e k =
    let f : all ≡ found = e ∙ ap (λ xs. found ++ faults_after (take i rows) xs) (drop_all i rows h) ∙ append-nil found in
    subst (λ (xs : List LayoutFault). IsBest xs judge.best) (sym f) k.best

pub level_is : (before : List Row) (row : Row) (deeper returns result : Bool) → deeper ≡ goes_deeper (last_of before) row → returns ≡ any_level row (opened before)
    → result ≡ ((rank row.level == 1) || (not row.starts && (deeper || returns))) → result ≡ level_fits before row
level_is before row deeper returns result e f g = g ∙ ap (λ b. (rank row.level == 1) || (not row.starts && (b || returns))) e ∙ ap (λ b. (rank row.level == 1) || (not row.starts && (goes_deeper (last_of before) row || b))) f

-- a count that stands still is past a smaller limit exactly where the number is
pub counted_le : (m n k : ℕ) → k < m → nat_le (min n m) k ≡ nat_le n k
counted_le m n k h = elim (cases_lt m n) as (λ _. nat_le (min n m) k ≡ nat_le n k) [ inl far ↦ (let e : min n m ≡ m = omega arith in rw e (grind (arith, nat_tests))) | inr near ↦ (let e : min n m ≡ n = omega arith in rw e refl) ]

pub counted_lt : (m n k : ℕ) → k < m → nat_lt k (min n m) ≡ nat_lt k n
counted_lt m n k h = elim (cases_lt m n) as (λ _. nat_lt k (min n m) ≡ nat_lt k n) [ inl far ↦ (let e : min n m ≡ m = omega arith in rw e (grind (arith, nat_tests))) | inr near ↦ (let e : min n m ≡ n = omega arith in rw e refl) ]

pub noted : (all : List LayoutFault) (a b : Bool) (fault : LayoutFault) (best : Option LayoutFault) → a ≡ b → IsBest (all ++ fault_where a fault) best → IsBest (all ++ fault_where b fault) best
noted all a b fault best e h = subst (λ (x : Bool). IsBest (all ++ fault_where x fault) best) e h

pub joined : (all a b c d : List LayoutFault) (best : Option LayoutFault) → IsBest ((((all ++ a) ++ b) ++ c) ++ d) best → IsBest (all ++ (a ++ (b ++ (c ++ d)))) best
joined all a b c d best h = simp append_assoc at h

pub sized_is : (before : List Row) (row : Row) (had now : Bool) → had ≡ list_all has_size before → now ≡ (had && has_size row) → now ≡ list_all has_size (before ++ row ∷ [])
sized_is before row had now e f = f ∙ ap (λ b. b && has_size row) e ∙ one (list_all has_size before) (has_size row) ∙ sym (list_all-append has_size before (row ∷ []))
  where
    one : (a b : Bool) → (a && b) ≡ (a && (b && true))
    one true true = refl
    one true false = refl
    one false b = refl

pub fills_is : (before : List Row) (row : Row) (sized : Bool) (had now : ℕ) (full : Bool) → sized ≡ list_all has_size (before ++ row ∷ [])
    → had ≡ min (storage before) 18446744073709551615 → now ≡ min (storage (before ++ row ∷ [])) 18446744073709551615
    → full ≡ (sized && nat_le had 1000000 && nat_lt 1000000 now) → full ≡ passes_storage before row
fills_is before row sized had now full e f g h =
    let low : nat_le had 1000000 ≡ nat_le (storage before) 1000000 = ap (λ n. nat_le n 1000000) f ∙ counted_le 18446744073709551615 (storage before) 1000000 (omega arith) in
    let high : nat_lt 1000000 now ≡ nat_lt 1000000 (storage (before ++ row ∷ [])) = ap (λ n. nat_lt 1000000 n) g ∙ counted_lt 18446744073709551615 (storage (before ++ row ∷ [])) 1000000 (omega arith) in
    h ∙ ap (λ b. b && nat_le had 1000000 && nat_lt 1000000 now) e
    ∙ ap (λ b. list_all has_size (before ++ row ∷ []) && b && nat_lt 1000000 now) low
    ∙ ap (λ b. list_all has_size (before ++ row ∷ []) && nat_le (storage before) 1000000 && b) high

pub bad_is : (before : List Row) (row : Row) (fits in_table bad : Bool) → fits ≡ level_fits before row → in_table ≡ is_repeated before row
    → bad ≡ (not fits || (is_some row.occurs && in_table) || has_bad_clauses row) → bad ≡ is_bad_level before row
bad_is before row fits in_table bad e f g =
    g ∙ ap (λ b. not b || (is_some row.occurs && in_table) || has_bad_clauses row) e
    ∙ ap (λ b. not (level_fits before row) || (is_some row.occurs && b) || has_bad_clauses row) f

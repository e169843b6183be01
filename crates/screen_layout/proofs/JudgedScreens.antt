-- The faults of screen rows, one more at a time.
use Rattle.std.proofs.Common.{◌≡◌, ℕ, ◌+◌, ◌<◌, ◌≤◌, sym, ◌∙◌, ap, subst, Bool, add-one, drop-cons, List, [], ◌∷◌, ◌++◌, length, take, drop, get_or, append_assoc, append-nil, Option}
use Rattle.std.proofs.lemmas.List.{take_more, drop_all}
use Rattle.screen_rows.specs.declared.row.ScreenRow.{ScreenRow}
use Rattle.screen_layout.specs.declared.fault.ScreenFault.{ScreenFault}
use Rattle.screen_layout.specs.declared.walk.ScreenWalk.{ScreenWalk}
use Rattle.screen_layout.specs.ScreenFaults.{fault_where, row_faults, faults_after, screen_faults}
use Rattle.screen_layout.specs.Best.{IsBest}
use Rattle.screen_layout.specs.Walk.{IsAfter}

pub noted : (all : List ScreenFault) (a b : Bool) (fault : ScreenFault) (best : Option ScreenFault) → a ≡ b → IsBest (all ++ fault_where a fault) best → IsBest (all ++ fault_where b fault) best
noted all a b fault best e h = subst (λ (x : Bool). IsBest (all ++ fault_where x fault) best) e h

pub joined : (all a b : List ScreenFault) (best : Option ScreenFault) → IsBest ((all ++ a) ++ b) best → IsBest (all ++ (a ++ b)) best
joined all a b best h = simp append_assoc at h

pub from_place : (rows : List ScreenRow) (i : ℕ) (d : ScreenRow) → i < length rows → drop i rows ≡ get_or rows i d ∷ drop (i + 1) rows
from_place rows i d h = rw (add-one, drop-cons rows i d)

-- the least of the faults so far, and all faults are those and those of the rest
pub record Judged (rows : List ScreenRow) (i : ℕ) (walk : ScreenWalk) (best : Option ScreenFault) : Type 0 where
  pub found : List ScreenFault
  pub after : IsAfter (take i rows) walk
  pub least : IsBest found best
  pub all : screen_faults rows ≡ found ++ faults_after (take i rows) (drop i rows)

pub judged_more : (rows : List ScreenRow) (i : ℕ) (d : ScreenRow) (walk next : ScreenWalk) (old best : Option ScreenFault) → i < length rows → (j : Judged rows i walk old)
    → IsBest (j.found ++ row_faults (take i rows) (get_or rows i d)) best → IsAfter (take i rows ++ get_or rows i d ∷ []) next → Judged rows (i + 1) next best
judged_more rows i d walk next old best h j k a =
    let here : drop i rows ≡ get_or rows i d ∷ drop (i + 1) rows = from_place rows i d h in
    let all : screen_faults rows ≡ j.found ++ (row_faults (take i rows) (get_or rows i d) ++ faults_after (take i rows ++ get_or rows i d ∷ []) (drop (i + 1) rows)) = j.all ∙ ap (λ xs. j.found ++ faults_after (take i rows) xs) here in
    record {
      found = j.found ++ row_faults (take i rows) (get_or rows i d);
      after = rw (take_more rows i d h) a;
      least = k;
      all = rw (take_more rows i d h, append_assoc j.found (row_faults (take i rows) (get_or rows i d)) (faults_after (take i rows ++ get_or rows i d ∷ []) (drop (i + 1) rows))) all;
    }

pub judged_all : (rows : List ScreenRow) (i : ℕ) (walk : ScreenWalk) (best : Option ScreenFault) → length rows ≤ i → Judged rows i walk best → IsBest (screen_faults rows) best
judged_all rows i walk best h j =
    let all : screen_faults rows ≡ j.found = j.all ∙ ap (λ xs. j.found ++ faults_after (take i rows) xs) (drop_all i rows h) ∙ append-nil j.found in
    subst (λ (xs : List ScreenFault). IsBest xs best) (sym all) j.least

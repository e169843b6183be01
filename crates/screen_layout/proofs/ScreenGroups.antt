-- What one more row changes in the open rows, the groups right before and the last item's end.
use Rattle.std.proofs.Common.{◌≡◌, ◌-◌, refl, sym, ◌∙◌, ap, arith, Bool, true, false, ◌&&◌, Option, Some, None, List, [], ◌∷◌, ◌++◌, length, append_assoc, append-nil}
use Rattle.std.specs.Prelude.{filter, if◌then◌else◌, slice_get}
use Rattle.std.specs.List.{list_all, last_or, filter_map}
use Rattle.std.proofs.lemmas.List.Folds.{list_all-append}
use Rattle.std.proofs.lemmas.List.Elements.{filter_map-append}
use Rattle.screen_rows.specs.declared.row.ScreenRow.{ScreenRow}
use Rattle.screen_layout.specs.declared.place.End.{End}
use Rattle.screen_layout.specs.Placing.{goes_on, opened, groups, is_group, leading, innermost, given, or_outer, end_with, ends_at, end_after, no_item}

one_more : (test : ScreenRow → Bool) (group row : ScreenRow) (a b : Bool) (rows : List ScreenRow) → test group ≡ b
    → (if a && (b && true) then group ∷ (filter test rows ++ row ∷ []) else filter test rows ++ row ∷ []) ≡ filter test (if a then group ∷ rows else rows) ++ row ∷ []
one_more test group row true true rows e = rw e refl
one_more test group row true false rows e = rw e refl
one_more test group row false b rows e = refl

-- After one more row its groups are open, and it.
pub opened-push : (before : List ScreenRow) (row : ScreenRow) → opened (before ++ row ∷ []) ≡ groups before row ++ row ∷ []
opened-push [] row = refl
opened-push (group ∷ later) row =
    rw (list_all-append (goes_on group) later (row ∷ []), opened-push later row)
    (one_more (λ other. goes_on other row) group row (list_all (goes_on group) later) (goes_on group row) (opened later) refl)

-- ---- the last row

last_place : {A : Type 0} (row : A) (rows : List A) → slice_get (row ∷ rows) (length rows) ≡ last_or (Some row) rows
last_place row [] = refl
last_place row (next ∷ rows) = last_place next rows

pub last_or-is : {A : Type 0} (rows : List A) → slice_get rows (length rows - 1) ≡ last_or None rows
last_or-is [] = refl
last_or-is (row ∷ rows) = let e : length (row ∷ rows) - 1 ≡ length rows = omega arith in rw e (last_place row rows)

last_shown : (o : Option ScreenRow) (a : Bool) (row : ScreenRow) (later : List ScreenRow) → list_all (goes_on row) later ≡ a → last_or (Some row) (opened later) ≡ last_or (Some row) later
    → last_or o (opened later) ≡ last_or o later → last_or o (if a then row ∷ opened later else opened later) ≡ last_or (Some row) later
last_shown o true row later e h k = h
last_shown o false row [] e h k = cc
last_shown o false row (next ∷ later) e h k = k

-- the last row is open
pub last_or-opened : (o : Option ScreenRow) (rows : List ScreenRow) → last_or o (opened rows) ≡ last_or o rows
last_or-opened o [] = refl
last_or-opened o (row ∷ later) = last_shown o (list_all (goes_on row) later) row later refl (last_or-opened (Some row) later) (last_or-opened o later)

-- ---- the groups right before

leads : (a b : Bool) (row next : ScreenRow) (rows led : List ScreenRow)
    → (if a && (b && true) then row ∷ (rows ++ next ∷ []) else (if b then led ++ next ∷ [] else [])) ≡ (if b then (if a then row ∷ rows else led) ++ next ∷ [] else [])
leads true true row next rows led = refl
leads true false row next rows led = refl
leads false true row next rows led = refl
leads false false row next rows led = refl

-- one more group leads too, and after an item none does
pub leading-push : (before : List ScreenRow) (row : ScreenRow) → leading (before ++ row ∷ []) ≡ (if row.group then leading before ++ row ∷ [] else [])
leading-push [] row = at_first row.group row
  where
    at_first : (b : Bool) (row : ScreenRow) → (if b && true then row ∷ [] else []) ≡ (if b then row ∷ [] else [])
    at_first true row = refl
    at_first false row = refl
leading-push (first ∷ rows) row =
    rw (list_all-append is_group rows (row ∷ []), leading-push rows row) (grouped first.group (list_all is_group rows) row.group)
  where
    grouped : (f a b : Bool) → (if f && (a && (b && true)) then first ∷ (rows ++ row ∷ []) else (if b then leading rows ++ row ∷ [] else []))
        ≡ (if b then (if f && a then first ∷ rows else leading rows) ++ row ∷ [] else [])
    grouped true a b = leads a b first row rows (leading rows)
    grouped false a b = leads false b first row rows (leading rows)

-- ---- the innermost clause

module _ {A : Type 0} (pick : ScreenRow → Option A) where
  last_picked : (o : Option A) (own : Option A) (row : ScreenRow) → pick row ≡ own → last_or o (filter_map pick (row ∷ [])) ≡ or_outer own o
  last_picked o (Some x) row e = rw e refl
  last_picked o None row e = rw e refl

  last_append : (o : Option A) (xs ys : List A) → last_or o (xs ++ ys) ≡ last_or (last_or o xs) ys
  last_append o [] ys = refl
  last_append o (x ∷ xs) ys = last_append (Some x) xs ys

  pub innermost-push : (rows : List ScreenRow) (row : ScreenRow) → innermost pick (rows ++ row ∷ []) ≡ or_outer (pick row) (innermost pick rows)
  innermost-push rows row =
      ap (last_or None) (filter_map-append pick rows (row ∷ [])) ∙ last_append None (filter_map pick rows) (filter_map pick (row ∷ [])) ∙ last_picked (innermost pick rows) (pick row) row refl

  -- what is given to the next row
  pub given-is : (before : List ScreenRow) (row : ScreenRow) (lead : Option A) (got : Option A) → lead ≡ innermost pick (leading before) → got ≡ or_outer (pick row) lead → got ≡ given pick before row
  given-is before row lead got e f = f ∙ ap (or_outer (pick row)) e ∙ sym (innermost-push (leading before) row)

  led : (b : Bool) (before : List ScreenRow) (row : ScreenRow) → innermost pick (if b then leading before ++ row ∷ [] else []) ≡ (if b then or_outer (pick row) (innermost pick (leading before)) else None)
  led true before row = innermost-push (leading before) row
  led false before row = refl

  -- what waits after one more row
  pub lead-is : (before : List ScreenRow) (row : ScreenRow) (lead : Option A) (got : Option A) → lead ≡ innermost pick (leading before) → got ≡ (if row.group then or_outer (pick row) lead else None)
      → got ≡ innermost pick (leading (before ++ row ∷ []))
  lead-is before row lead got e f =
      f ∙ ap (λ o. if row.group then or_outer (pick row) o else None) e ∙ sym (led row.group before row) ∙ ap (innermost pick) (sym (leading-push before row))

-- ---- the last item's end

ends_at-push : (end : End) (rows before : List ScreenRow) (row : ScreenRow) → ends_at end rows (before ++ row ∷ []) ≡ end_with (ends_at end rows before) (rows ++ before) row
ends_at-push end rows [] row = ap (λ xs. end_with end xs row) (sym (append-nil rows))
ends_at-push end rows (first ∷ before) row =
    ends_at-push (end_with end rows first) (rows ++ first ∷ []) before row ∙ ap (λ xs. end_with (ends_at (end_with end rows first) (rows ++ first ∷ []) before) xs row) (append_assoc rows (first ∷ []) before)

pub end_after-push : (before : List ScreenRow) (row : ScreenRow) → end_after (before ++ row ∷ []) ≡ end_with (end_after before) before row
end_after-push before row = ends_at-push no_item [] before row

-- What one more row changes in the open rows, their groups and the bytes.
use Rattle.std.proofs.Common.{◌≡◌, ◌+◌, ◌-◌, ◌*◌, ◌||◌, Option, Some, refl, ◌∙◌, arith, Bool, true, false, ◌&&◌, List, [], ◌∷◌, ◌++◌, length, append_assoc, append-nil}
use Rattle.std.specs.Prelude.{filter, if◌then◌else◌, slice_get, is_some}
use Rattle.std.specs.List.{list_any, list_all, last_or}
use Rattle.std.proofs.lemmas.List.Folds.{list_all-append}
use Rattle.data_layout.specs.declared.row.Row.{Row}
use Rattle.data_layout.specs.Storage.{goes_on, opened, groups, times, own_size, bytes_after, storage, last_of, is_repeated}

one_more : (test : Row → Bool) (group row : Row) (a b : Bool) (rows : List Row) → test group ≡ b
    → (if a && (b && true) then group ∷ (filter test rows ++ row ∷ []) else filter test rows ++ row ∷ []) ≡ filter test (if a then group ∷ rows else rows) ++ row ∷ []
one_more test group row true true rows e = rw e refl
one_more test group row true false rows e = rw e refl
one_more test group row false b rows e = refl

-- After one more row its groups are open, and it.
pub opened-push : (before : List Row) (row : Row) → opened (before ++ row ∷ []) ≡ groups before row ++ row ∷ []
opened-push [] row = refl
opened-push (group ∷ later) row =
    rw (list_all-append (goes_on group) later (row ∷ []), opened-push later row)
    (one_more (λ other. goes_on other row) group row (list_all (goes_on group) later) (goes_on group row) (opened later) refl)

pub times-append : (a b : List Row) → times (a ++ b) ≡ times a * times b
times-append [] b = omega arith
times-append (row ∷ a) b = rw (times-append a b) (omega arith)

pub bytes_after-append : (before a b : List Row) → bytes_after before (a ++ b) ≡ bytes_after before a + bytes_after (before ++ a) b
bytes_after-append before [] b = rw (append-nil before) (omega arith)
bytes_after-append before (row ∷ a) b =
    rw (bytes_after-append (before ++ row ∷ []) a b, append_assoc before (row ∷ []) a) (omega arith)

pub storage-append : (a b : List Row) → storage (a ++ b) ≡ storage a + bytes_after a b
storage-append a b = bytes_after-append [] a b

pub storage-push : (before : List Row) (row : Row) → storage (before ++ row ∷ []) ≡ storage before + own_size row * times (opened (before ++ row ∷ []))
storage-push before row = storage-append before (row ∷ []) ∙ omega arith

-- ---- the last row

-- the last of a list, by its place
last_place : (row : Row) (rows : List Row) → slice_get (row ∷ rows) (length rows) ≡ last_or (Some row) rows
last_place row [] = refl
last_place row (next ∷ rows) = last_place next rows

pub last_of-is : (rows : List Row) → slice_get rows (length rows - 1) ≡ last_of rows
last_of-is [] = refl
last_of-is (row ∷ rows) = let e : length (row ∷ rows) - 1 ≡ length rows = omega arith in rw e (last_place row rows)

last_shown : (o : Option Row) (a : Bool) (row : Row) (later : List Row) → list_all (goes_on row) later ≡ a → last_or (Some row) (opened later) ≡ last_or (Some row) later
    → last_or o (opened later) ≡ last_or o later → last_or o (if a then row ∷ opened later else opened later) ≡ last_or (Some row) later
last_shown o true row later e h k = h
last_shown o false row [] e h k = cc
last_shown o false row (next ∷ later) e h k = k

-- the last row is open
pub last_of-opened : (o : Option Row) (rows : List Row) → last_or o (opened rows) ≡ last_or o rows
last_of-opened o [] = refl
last_of-opened o (row ∷ later) = last_shown o (list_all (goes_on row) later) row later refl (last_of-opened (Some row) later) (last_of-opened o later)

-- ---- groups with OCCURS

in_table_step : (a b : Bool) (row : Row) (p : Row → Bool) (rows : List Row) (r : Bool) → p row ≡ b → list_any p rows ≡ r → list_any p (if a then row ∷ rows else rows) ≡ ((a && b) || r)
in_table_step true b row p rows r e h = rw (e, h) refl
in_table_step false b row p rows r e h = h

-- a test of the groups is one of the open rows in which the row goes on
pub list_any-filter : (q p : Row → Bool) (rows : List Row) → list_any p (filter q rows) ≡ list_any (λ row. q row && p row) rows
list_any-filter q p [] = refl
list_any-filter q p (row ∷ rows) = in_table_step (q row) (p row) row p (filter q rows) _ refl (list_any-filter q p rows)

pub is_repeated-is : (before : List Row) (row : Row) → list_any (λ group. is_some group.occurs) (groups before row) ≡ is_repeated before row
is_repeated-is before row = list_any-filter (λ group. goes_on group row) (λ group. is_some group.occurs) (opened before)

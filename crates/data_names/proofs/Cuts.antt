-- An item among the others: what stands before it and behind it, and what the rows say of its groups.
use Rattle.std.proofs.Common.{◌≡◌, ◌∙◌, refl, sym, ap, Bool, true, false, ◌&&◌, ◌||◌, List, [], ◌∷◌, ◌++◌, append_assoc, map}
use Rattle.std.specs.Prelude.{if◌then◌else◌, filter, is_some}
use Rattle.std.specs.List.{list_any, list_all}
use Rattle.data_layout.specs.declared.row.Row.{Row}
use Rattle.data_layout.specs.Storage.{goes_on, opened, is_repeated}
use Rattle.data_names.specs.Items.{DataItem}
use Rattle.data_names.specs.Spots as n
use Rattle.data_names.specs.Spots.{Spot, spots_after, spot_of, open_after, rows_before}
use Rattle.data_names.proofs.Opened.{list_any-map}

-- ---- an item that was chosen

pub chosen_cut : {A P : Type 0} (test : Spot A → Bool) (b : Bool) (x spot : Spot A) (xs : List (Spot A)) → (if b then x ∷ xs else xs) ≡ spot ∷ [] → (x ≡ spot → P) → (xs ≡ spot ∷ [] → P) → P
chosen_cut test true x spot xs e here later = let same : x ≡ spot = cc e in here same
chosen_cut test false x spot xs e here later = later e

-- the one spot that was chosen stands among all of them
pub spot_cut : {A : Type 0} (test : Spot A → Bool) (before items : List A) (spot : Spot A) → filter test (spots_after before items) ≡ spot ∷ [] → before ++ items ≡ spot.before ++ spot.item ∷ spot.rest
spot_cut test before [] spot e = cc e
spot_cut {A} test before (x ∷ items) spot e =
    chosen_cut test (test (spot_of before x items)) (spot_of before x items) spot (filter test (spots_after (before ++ x ∷ []) items)) e
    (λ same. ap (λ (one : Spot A). one.before ++ one.item ∷ one.rest) same)
    (λ later. sym (append_assoc before (x ∷ []) items) ∙ spot_cut test (before ++ x ∷ []) items spot later)

-- ---- the rows of its groups

any_step : {A : Type 0} (a b : Bool) (x : A) (test : A → Bool) (xs : List A) (r : Bool) → test x ≡ b → list_any test xs ≡ r → list_any test (if a then x ∷ xs else xs) ≡ ((a && b) || r)
any_step true b x test xs r e h = rw (e, h) refl
any_step false b x test xs r e h = h

pub any_filter : {A : Type 0} (chosen test : A → Bool) (xs : List A) → list_any test (filter chosen xs) ≡ list_any (λ x. chosen x && test x) xs
any_filter chosen test [] = refl
any_filter chosen test (x ∷ xs) = any_step (chosen x) (test x) x test (filter chosen xs) _ refl (any_filter chosen test xs)

pub list_all-map : {A B : Type 0} (f : A → B) (p : B → Bool) (xs : List A) → list_all p (map f xs) ≡ list_all (λ x. p (f x)) xs
list_all-map f p [] = refl
list_all-map f p (x ∷ xs) = ap (λ b. p (f x) && b) (list_all-map f p xs)

opened_step : {A : Type 0} (row : A → Row) (a : Bool) (x : A) (xs : List A) (rows : List Row) → rows ≡ map row xs → (if a then row x ∷ rows else rows) ≡ map row (if a then x ∷ xs else xs)
opened_step row true x xs rows e = ap (λ others. row x ∷ others) e
opened_step row false x xs rows e = e

pub opened-map : {A : Type 0} (row : A → Row) (before : List A) → opened (map row before) ≡ map row (open_after row before)
opened-map row [] = refl
opened-map row (x ∷ later) =
    rw (list_all-map row (goes_on (row x)) later) (opened_step row (list_all (λ other. goes_on (row x) (row other)) later) x (open_after row later) (opened (map row later)) (opened-map row later))

pub repeated-is : (spot : Spot DataItem) → n.is_repeated spot ≡ is_repeated (rows_before spot) spot.item.row
repeated-is spot =
    any_filter (λ (group : DataItem). goes_on group.row spot.item.row) (λ (group : DataItem). is_some group.row.occurs) (open_after (λ (item : DataItem). item.row) spot.before)
    ∙ sym (list_any-map (λ (item : DataItem). item.row) (λ (group : Row). goes_on group spot.item.row && is_some group.occurs) (open_after (λ (item : DataItem). item.row) spot.before))
    ∙ ap (list_any (λ (group : Row). goes_on group spot.item.row && is_some group.occurs)) (sym (opened-map (λ (item : DataItem). item.row) spot.before))

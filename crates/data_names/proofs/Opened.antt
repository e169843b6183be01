-- What one more entry changes in the open entries.
use Rattle.std.proofs.Common.{◌≡◌, ◌+◌, ◌-◌, ◌||◌, Option, Some, None, refl, sym, ◌∙◌, ap, arith, Bool, true, false, ◌&&◌, List, [], ◌∷◌, ◌++◌, length, map, reverse, append_assoc, append-nil, ◌<◌, ℕ, take, drop, get_or, zero, suc, add-one}
use Rattle.std.specs.Prelude.{filter, if◌then◌else◌, slice_get, option_map}
use Rattle.std.specs.List.{list_any, list_all, last_or}
use Rattle.std.proofs.lemmas.List.{reverse-append, map_push}
use Rattle.std.proofs.lemmas.List.Folds.{list_all-append}
use Rattle.data_layout.specs.declared.row.Row.{Row}
use Rattle.data_layout.specs.Storage.{goes_on}
use Rattle.data_names.specs.Spots.{open_after, around, spots, spots_after, spot_of}

one_more : {A : Type 0} (test : A → Bool) (group item : A) (a b : Bool) (items : List A) → test group ≡ b
    → (if a && (b && true) then group ∷ (filter test items ++ item ∷ []) else filter test items ++ item ∷ []) ≡ filter test (if a then group ∷ items else items) ++ item ∷ []
one_more test group item true true items e = rw e refl
one_more test group item true false items e = rw e refl
one_more test group item false b items e = refl

-- after one more entry the groups that it is in are open, and it
pub open_after-push : {A : Type 0} (row : A → Row) (before : List A) (item : A) → open_after row (before ++ item ∷ []) ≡ around row before item ++ item ∷ []
open_after-push row [] item = refl
open_after-push row (group ∷ later) item =
    rw (list_all-append (λ other. goes_on (row group) (row other)) later (item ∷ []), open_after-push row later item)
    (one_more (λ other. goes_on (row other) (row item)) group item (list_all (λ other. goes_on (row group) (row other)) later) (goes_on (row group) (row item)) (open_after row later) refl)

-- the last of a list, by its place
last_place : {A : Type 0} (item : A) (items : List A) → slice_get (item ∷ items) (length items) ≡ last_or (Some item) items
last_place item [] = refl
last_place item (next ∷ items) = last_place next items

pub last_or-is : {A : Type 0} (items : List A) → slice_get items (length items - 1) ≡ last_or None items
last_or-is [] = refl
last_or-is (item ∷ items) = let e : length (item ∷ items) - 1 ≡ length items = omega arith in rw e (last_place item items)

chosen : {A B : Type 0} (f : A → B) (p : B → Bool) (x : A) (xs : List A) (b : Bool) → p (f x) ≡ b → map f (filter (λ y. p (f y)) xs) ≡ filter p (map f xs)
    → map f (if b then x ∷ filter (λ y. p (f y)) xs else filter (λ y. p (f y)) xs) ≡ (if b then f x ∷ filter p (map f xs) else filter p (map f xs))
chosen f p x xs true e h = ap (λ ys. f x ∷ ys) h
chosen f p x xs false e h = h

-- choosing by what is seen
pub map-filter : {A B : Type 0} (f : A → B) (p : B → Bool) (xs : List A) → map f (filter (λ y. p (f y)) xs) ≡ filter p (map f xs)
map-filter f p [] = refl
map-filter f p (x ∷ xs) = chosen f p x xs (p (f x)) refl (map-filter f p xs)

pub list_any-map : {A B : Type 0} (f : A → B) (p : B → Bool) (xs : List A) → list_any p (map f xs) ≡ list_any (λ x. p (f x)) xs
list_any-map f p [] = refl
list_any-map f p (x ∷ xs) = ap (λ b. p (f x) || b) (list_any-map f p xs)

last_or-map-from : {A B : Type 0} (f : A → B) (o : Option A) (o' : Option B) (xs : List A) → o' ≡ option_map f o → last_or o' (map f xs) ≡ option_map f (last_or o xs)
last_or-map-from f o o' [] e = e
last_or-map-from f o o' (x ∷ xs) e = last_or-map-from f (Some x) (Some (f x)) xs refl

pub last_or-map : {A B : Type 0} (f : A → B) (xs : List A) → last_or None (map f xs) ≡ option_map f (last_or None xs)
last_or-map f xs = last_or-map-from f None None xs refl

-- ---- entries among others

spots_after-more : {A : Type 0} (before items : List A) (k : ℕ) (item : A) → k < length items → item ≡ get_or items k item
    → take (suc k) (spots_after before items) ≡ take k (spots_after before items) ++ spot_of (before ++ take k items) item (drop (suc k) items) ∷ []
spots_after-more before [] k item h e = absurd (omega arith)
spots_after-more before (x ∷ items) zero item h e = rw (append-nil before, e) refl
spots_after-more before (x ∷ items) (suc k) item h e =
    ap (λ spots. spot_of before x items ∷ spots)
    (spots_after-more (before ++ x ∷ []) items k item (omega arith) e ∙ ap (λ front. take k (spots_after (before ++ x ∷ []) items) ++ spot_of front item (drop (suc k) items) ∷ []) (append_assoc before (x ∷ []) (take k items)))

-- one more entry
pub spots-more : {A : Type 0} (items : List A) (k : ℕ) (item : A) → k < length items → item ≡ get_or items k item
    → take (k + 1) (spots items) ≡ take k (spots items) ++ spot_of (take k items) item (drop (k + 1) items) ∷ []
spots-more items k item h e = rw add-one (spots_after-more [] items k item h e)

pub map-reverse : {A B : Type 0} (f : A → B) (xs : List A) → map f (reverse xs) ≡ reverse (map f xs)
map-reverse f [] = refl
map-reverse f (x ∷ xs) =
    ap (map f) (reverse-append (x ∷ []) xs) ∙ map_push f (reverse xs) x ∙ ap (λ ys. ys ++ f x ∷ []) (map-reverse f xs) ∙ sym (reverse-append (f x ∷ []) (map f xs))

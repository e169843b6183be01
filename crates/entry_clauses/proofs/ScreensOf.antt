-- The entries of screens, one after another.
use Rattle.std.proofs.Common.{◌≡◌, ◌∙◌, refl, sym, ap, subst, arith, rules, ℕ, ◌+◌, ◌-◌, ◌<◌, ◌≤◌, Bool, true, false, ◌&&◌, add-one, List, [], ◌∷◌, ◌++◌, append_assoc, append-nil, map, length, drop, get_or, drop-cons, Option, Some, None}
use Rattle.std.specs.Prelude.{◌==◌, if◌then◌else◌, filter, option_map, slice_get}
use Rattle.std.specs.List.{list_all, last_or}
use Rattle.std.proofs.lemmas.List.{map-append, drop_all}
use Rattle.cob_base.specs.declared.screen_entries.ScreenEntry.{ScreenEntry}
use Rattle.data_layout.specs.declared.row.Row.{Row}
use Rattle.data_layout.specs.declared.walk.Walk.{Walk}
use Rattle.data_layout.specs.Storage.{goes_on, opened, groups}
use Rattle.data_layout.specs.Walk.{IsAfter}
use Rattle.data_names.specs.Spots.{open_after}
use Rattle.entry_clauses.specs.declared.screens.KnownScreen.{KnownScreen}
use Rattle.entry_clauses.specs.ScreenItems.{ScreenItem, IsScreenItem, AreScreenItemsAfter}
use Rattle.entry_clauses.specs.SeenScreens.{seen_screen, IsPlacedScreen, ArePlacedAfter, AreKnownScreens}

-- ---- groups, by the rows of entries

pub list_all-map : {A B : Type 0} (f : A → B) (p : B → Bool) (xs : List A) → list_all p (map f xs) ≡ list_all (λ x. p (f x)) xs
list_all-map f p [] = refl
list_all-map f p (x ∷ xs) = ap (λ b. p (f x) && b) (list_all-map f p xs)

pub chosen : {A B : Type 0} (f : A → B) (x : A) (xs : List A) (ys : List B) (b : Bool) → ys ≡ map f xs → (if b then f x ∷ ys else ys) ≡ map f (if b then x ∷ xs else xs)
chosen f x xs ys true h = ap (λ zs. f x ∷ zs) h
chosen f x xs ys false h = h

pub filter-map : {A B : Type 0} (f : A → B) (p : B → Bool) (xs : List A) → filter p (map f xs) ≡ map f (filter (λ x. p (f x)) xs)
filter-map f p [] = refl
filter-map f p (x ∷ xs) = chosen f x (filter (λ y. p (f y)) xs) (filter p (map f xs)) (p (f x)) (filter-map f p xs)

opened-map : {A : Type 0} (row : A → Row) (xs : List A) → opened (map row xs) ≡ map row (open_after row xs)
opened-map row [] = refl
opened-map row (x ∷ xs) =
    rw (list_all-map row (goes_on (row x)) xs) (chosen row x (open_after row xs) (opened (map row xs)) (list_all (λ other. goes_on (row x) (row other)) xs) (opened-map row xs))

last_or-map : {A B C : Type 0} (f : A → B) (g : B → C) (o : Option A) (p : Option B) (xs : List A) → p ≡ option_map f o → option_map g (last_or p (map f xs)) ≡ option_map (λ x. g (f x)) (last_or o xs)
last_or-map f g None p [] e = rw e refl
last_or-map f g (Some x) p [] e = rw e refl
last_or-map f g o p (x ∷ xs) e = last_or-map f g (Some x) (Some (f x)) xs refl

last_place : {A : Type 0} (item : A) (items : List A) → slice_get (item ∷ items) (length items) ≡ last_or (Some item) items
last_place item [] = refl
last_place item (next ∷ items) = last_place next items

-- the last of a list, by its place
pub last_or-is : {A : Type 0} (items : List A) → slice_get items (length items - 1) ≡ last_or None items
last_or-is [] = refl
last_or-is (item ∷ items) = let e : length (item ∷ items) - 1 ≡ length items = omega arith in rw e (last_place item items)

-- the number of the innermost group
pub parent_of : (before : List ScreenItem) (row : Row) (rows : List Row) → rows ≡ groups (map (λ other. other.row) before) row
    → option_map (λ (other : Row). other.number) (last_or None rows)
    ≡ option_map (λ (group : ScreenItem). group.row.number) (last_or None (filter (λ (group : ScreenItem). goes_on group.row row) (open_after (λ other. other.row) before)))
parent_of before row rows e =
    let own : ScreenItem → Row = λ (other : ScreenItem). other.row in
    let chosen : groups (map own before) row ≡ map own (filter (λ (group : ScreenItem). goes_on group.row row) (open_after own before)) =
    ap (filter (λ (group : Row). goes_on group row)) (opened-map own before) ∙ filter-map own (λ (group : Row). goes_on group row) (open_after own before) in
    ap (λ (some : List Row). option_map (λ (other : Row). other.number) (last_or None some)) (e ∙ chosen)
    ∙ last_or-map own (λ (other : Row). other.number) None None (filter (λ (group : ScreenItem). goes_on group.row row) (open_after own before)) refl

-- ---- one more entry

placed_more : (before : List ScreenItem) (items : List KnownScreen) (item : KnownScreen) → ArePlacedAfter before items → IsPlacedScreen (before ++ map seen_screen items) item → ArePlacedAfter before (items ++ item ∷ [])
placed_more before [] item h k = (subst (λ some. IsPlacedScreen some item) (append-nil before) k, tt)
placed_more before (first ∷ items) item h k =
    (h.0, placed_more (before ++ seen_screen first ∷ []) items item h.1 (subst (λ some. IsPlacedScreen some item) (sym (append_assoc before (seen_screen first ∷ []) (map seen_screen items))) k))

-- the entries so far, before the rest
pub record Gathered (entries : List ScreenEntry) (at : ℕ) (walk : Walk) (items : List KnownScreen) : Type 0 where
  pub after : IsAfter (map (λ (other : ScreenItem). other.row) (map seen_screen items)) walk
  pub read : (r : List ScreenItem) → AreScreenItemsAfter (at == 0) at (drop at entries) r → AreScreenItemsAfter true 0 entries (map seen_screen items ++ r)
  pub placed : ArePlacedAfter [] items

pub from_here : {A : Type 0} (xs : List A) (at : ℕ) (x : A) → at < length xs → drop at xs ≡ get_or xs at x ∷ drop (at + 1) xs
from_here xs at x h = rw add-one (drop-cons xs at x h)

pub gathered_more : (entries : List ScreenEntry) (at : ℕ) (entry : ScreenEntry) (old new : Walk) (items : List KnownScreen) (item : KnownScreen) → at < length entries → entry ≡ get_or entries at entry
    → Gathered entries at old items → item.entry.now ≡ entry → IsScreenItem (at == 0) at (drop (at + 1) entries) (seen_screen item) → IsPlacedScreen (map seen_screen items) item
    → IsAfter (map (λ (other : ScreenItem). other.row) (map seen_screen items) ++ item.row ∷ []) new → Gathered entries (at + 1) new (items ++ item ∷ [])
gathered_more entries at entry old new items item h e g same is placed after =
    let seen : map seen_screen (items ++ item ∷ []) ≡ map seen_screen items ++ seen_screen item ∷ [] = map-append seen_screen items (item ∷ []) in
    let here : drop at entries ≡ entry ∷ drop (at + 1) entries = from_here entries at entry h ∙ ap (λ x. x ∷ drop (at + 1) entries) (sym e) in
    record {
      after = subst (λ some. IsAfter (map (λ (other : ScreenItem). other.row) some) new) (sym seen)
          (subst (λ rows. IsAfter rows new) (sym (map-append (λ (other : ScreenItem). other.row) (map seen_screen items) (seen_screen item ∷ []))) after);
      read = λ r k.
          let later : AreScreenItemsAfter false (at + 1) (drop (at + 1) entries) r = subst (λ first. AreScreenItemsAfter first (at + 1) (drop (at + 1) entries) r) (not_first at) k in
          let all = g.read (seen_screen item ∷ r) (subst (λ es. AreScreenItemsAfter (at == 0) at es (seen_screen item ∷ r)) (sym here) (same, is, later)) in
          subst (λ some. AreScreenItemsAfter true 0 entries some) (sym (ap (λ some. some ++ r) seen ∙ append_assoc (map seen_screen items) (seen_screen item ∷ []) r)) all;
      placed = placed_more [] items item g.placed placed;
    }
  where
    not_first : (n : ℕ) → ((n + 1) == 0) ≡ false
    not_first n = search rules

pub gathered_all : (entries : List ScreenEntry) (at : ℕ) (walk : Walk) (items : List KnownScreen) → length entries ≤ at → Gathered entries at walk items → AreKnownScreens entries items
gathered_all entries at walk items h g = record {
  items = subst (λ some. AreScreenItemsAfter true 0 entries some) (append-nil (map seen_screen items)) (g.read [] (subst (λ es. AreScreenItemsAfter (at == 0) at es []) (sym (drop_all at entries h)) refl));
  placed = g.placed;
}

pub gathered_none : (entries : List ScreenEntry) (walk : Walk) (items : List KnownScreen) → items ≡ [] → IsAfter [] walk → Gathered entries 0 walk items
gathered_none entries walk items e h = subst (λ some. Gathered entries 0 walk some) (sym e) (record { after = h; read = λ r k. k; placed = tt })

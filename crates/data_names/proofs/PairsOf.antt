-- Numbers of items under the keys of names and groups.
use Rattle.std.proofs.Common.{◌≡◌, ◌∙◌, refl, ap, sym, arith, ℕ, zero, suc, ◌+◌, ◌<◌, ◌≤◌, ◌==◌, ◌||◌, ◌&&◌, Bool, true, false, List, [], ◌∷◌, ◌++◌, length, map, take, get_or, Option, Some, None}
use Rattle.std.specs.Prelude.{if◌then◌else◌, slice_get}
use Rattle.std.specs.List.{list_any, last_or}
use Rattle.std.specs.Str.{bytes_eq}
use Rattle.std.specs.Cmp.Lexicographic.{bytes_decides}
use Rattle.std.proofs.lemmas.Bool.Decides.{nat_tests}
use Rattle.std.proofs.lemmas.List.{take_more, map-append}
use Rattle.std.proofs.lemmas.List.Folds.{list_any-append}
use Rattle.std.proofs.lemmas.Option.{slice_get_read}
use Rattle.data_names.specs.Items.{DataItem}
use Rattle.data_names.specs.Spots.{Spot, spots, spot_of}
use Rattle.data_names.specs.declared.asked.AskedPairs.{AskedPairs}
use Rattle.data_names.specs.Asked.{is_asked}
use Rattle.data_names.specs.Names.{numbers_from, ends_with, is_number, with_number}
use Rattle.data_names.specs.Pairs.{is_pair}

-- a number that was put under the key bs
pub put_once : (old : List ℕ → List ℕ) (bs cs taken mid new : List ℕ) (n : ℕ) (b : Bool) → bytes_eq bs cs ≡ b → ((cs : List ℕ) → bytes_eq bs cs ≡ true → bs ≡ cs) → taken ≡ old bs → mid ≡ (if b then [] else old cs)
    → new ≡ (if b then with_number taken n else mid) → new ≡ (if b then with_number (old cs) n else old cs)
put_once old bs cs taken mid new n true y same t m e = e ∙ ap (λ xs. with_number xs n) (t ∙ ap old (same cs y))
put_once old bs cs taken mid new n false y same t m e = e ∙ m

-- ---- a number under a key that is asked for

-- a key that is this one is asked for where this one is
same_asked : (asked : AskedPairs) (key other : List ℕ) (a b : Bool) → is_asked asked key ≡ a → bytes_eq key other ≡ b → (b && is_asked asked other) ≡ (b && a)
same_asked asked key other a true h e = ap (is_asked asked) (sym ((bytes_decides key other).0 e)) ∙ h
same_asked asked key other a false h e = refl

none_asked : (b : Bool) → (b && false) ≡ false
none_asked true = refl
none_asked false = refl

all_asked : (b : Bool) → (b && true) ≡ b
all_asked true = refl
all_asked false = refl

pub not_put : (asked : AskedPairs) (key other old more : List ℕ) → is_asked asked key ≡ false → old ≡ (if bytes_eq key other && is_asked asked other then more else old)
not_put asked key other old more h =
    sym (ap (λ b. if b then more else old) (same_asked asked key other false (bytes_eq key other) h refl ∙ none_asked (bytes_eq key other)))

pub put_where_asked : (asked : AskedPairs) (key other old more new : List ℕ) → is_asked asked key ≡ true → new ≡ (if bytes_eq key other then more else old)
    → new ≡ (if bytes_eq key other && is_asked asked other then more else old)
put_where_asked asked key other old more new h e =
    e ∙ sym (ap (λ b. if b then more else old) (same_asked asked key other true (bytes_eq key other) h refl ∙ all_asked (bytes_eq key other)))

-- ---- the groups of one item

last_of_push : (xs : List ℕ) (o : Option ℕ) (n : ℕ) → last_or o (xs ++ n ∷ []) ≡ Some n
last_of_push [] o n = refl
last_of_push (x ∷ xs) o n = last_of_push xs (Some x) n

same_number : (n : ℕ) → (n == n) ≡ true
same_number n = grind (arith, nat_tests)

-- a number is at the end of a list to which it was added
pub ends_pushed : (xs : List ℕ) (n : ℕ) → ends_with n (xs ++ n ∷ []) ≡ true
ends_pushed xs n = ap (is_number n) (last_of_push xs None n) ∙ same_number n

-- one more group
pub group_added : (a b : Bool) (old cur new : List ℕ) (n : ℕ) → ends_with n old ≡ false → cur ≡ (if a then old ++ n ∷ [] else old) → new ≡ (if b then with_number cur n else cur)
    → new ≡ (if a || (b || false) then old ++ n ∷ [] else old)
group_added true true old cur new n h c e = e ∙ ap (λ xs. with_number xs n) c ∙ ap (λ t. if t then old ++ n ∷ [] else (old ++ n ∷ []) ++ n ∷ []) (ends_pushed old n)
group_added true false old cur new n h c e = e ∙ c
group_added false true old cur new n h c e = e ∙ ap (λ xs. with_number xs n) c ∙ ap (λ t. if t then old else old ++ n ∷ []) h
group_added false false old cur new n h c e = e ∙ c

-- one more group, under a key that is asked for or not
pub group_asked : (a b g : Bool) (old cur new : List ℕ) (n : ℕ) → ends_with n old ≡ false → cur ≡ (if a && g then old ++ n ∷ [] else old) → new ≡ (if b && g then with_number cur n else cur)
    → new ≡ (if (a || (b || false)) && g then old ++ n ∷ [] else old)
group_asked true true true old cur new n h c e = group_added true true old cur new n h c e
group_asked true false true old cur new n h c e = group_added true false old cur new n h c e
group_asked false true true old cur new n h c e = group_added false true old cur new n h c e
group_asked false false true old cur new n h c e = group_added false false old cur new n h c e
group_asked true true false old cur new n h c e = e ∙ c
group_asked true false false old cur new n h c e = e ∙ c
group_asked false true false old cur new n h c e = e ∙ c
group_asked false false false old cur new n h c e = e ∙ c

-- one more group of a list
pub groups_more : {G : Type 0} (see : G → Option (List ℕ)) (key name : List ℕ) (groups : List G) (at : ℕ) (group : G) (g : Bool) (old cur new : List ℕ) (n : ℕ) → at < length groups → group ≡ get_or groups at group → ends_with n old ≡ false
    → cur ≡ (if list_any (is_pair key name) (map see (take at groups)) && g then old ++ n ∷ [] else old) → new ≡ (if is_pair key name (see group) && g then with_number cur n else cur)
    → new ≡ (if list_any (is_pair key name) (map see (take (at + 1) groups)) && g then old ++ n ∷ [] else old)
groups_more see key name groups at group g old cur new n l e h c d =
    let more : take (at + 1) groups ≡ take at groups ++ group ∷ [] = take_more groups at group l ∙ ap (λ y. take at groups ++ y ∷ []) (sym e) in
    group_asked (list_any (is_pair key name) (map see (take at groups))) (is_pair key name (see group)) g old cur new n h c d
    ∙ ap (λ b. if b && g then old ++ n ∷ [] else old)
    (sym (ap (λ some. list_any (is_pair key name) (map see some)) more ∙ ap (list_any (is_pair key name)) (map-append see (take at groups) (group ∷ []))
    ∙ list_any-append (is_pair key name) (map see (take at groups)) (see group ∷ [])))

-- ---- numbers that are counted on are not there yet

-- all of these numbers are below
abbrev AreBelow : ℕ → List ℕ → Type 0
AreBelow n [] = Unit {0}
AreBelow n (x ∷ xs) = (x < n) × AreBelow n xs

below_step : (b : Bool) (m n : ℕ) (xs : List ℕ) → m < n → AreBelow n xs → AreBelow n (if b then m ∷ xs else xs)
below_step true m n xs h k = (h, k)
below_step false m n xs h k = k

below_from : {A : Type 0} (m n : ℕ) (test : A → Bool) (xs : List A) → m + length xs ≤ n → AreBelow n (numbers_from m test xs)
below_from m n test [] h = tt
below_from m n test (x ∷ xs) h = below_step (test x) m n (numbers_from (m + 1) test xs) (omega arith) (below_from (m + 1) n test xs (omega arith))

differs : (x n : ℕ) → x < n → (x == n) ≡ false
differs x n h = grind (arith, nat_tests)

below_ends : (n : ℕ) (xs : List ℕ) (o : Option ℕ) → is_number n o ≡ false → AreBelow n xs → is_number n (last_or o xs) ≡ false
below_ends n [] o e h = e
below_ends n (x ∷ xs) o e h = below_ends n xs (Some x) (differs x n h.0) h.1

pub not_yet : {A : Type 0} (n : ℕ) (test : A → Bool) (xs : List A) → length xs ≤ n → ends_with n (numbers_from 0 test xs) ≡ false
not_yet n test xs h = below_ends n (numbers_from 0 test xs) None refl (below_from 0 n test xs (omega arith))

-- ---- an item among others

pub record SpotHere (items : List DataItem) (at_place : ℕ) : Type 0 where
  pub spot : Spot DataItem
  pub read : spot ≡ get_or (spots items) at_place spot
  pub at : slice_get (spots items) at_place ≡ Some spot

same_read : {A : Type 0} (xs : List A) (k : ℕ) (d e : A) → k < length xs → get_or xs k d ≡ get_or xs k e
same_read [] k d e h = absurd (omega arith)
same_read (x ∷ xs) zero d e h = refl
same_read (x ∷ xs) (suc k) d e h = same_read xs k d e (omega arith)

pub spot_here : (items : List DataItem) (k : ℕ) (item : DataItem) → k < length (spots items) → SpotHere items k
spot_here items k item h =
    let first : Spot DataItem = spot_of [] item [] in
    let one : Spot DataItem = get_or (spots items) k first in
    let here : one ≡ get_or (spots items) k one = same_read (spots items) k first one h in
    record { spot = one; read = here; at = slice_get_read (spots items) (length (spots items)) k one refl h here }

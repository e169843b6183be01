-- The groups of an entry that others stand between.
use Rattle.std.proofs.Common.{◌≡◌, ◌<◌, ◌||◌, ◌&&◌, refl, ◌∙◌, ap, arith, Bool, true, false, List, [], ◌∷◌, ◌++◌}
use Rattle.std.specs.Prelude.{filter, if◌then◌else◌, not, nat_lt}
use Rattle.std.specs.List.{list_any, list_all}
use Rattle.std.proofs.lemmas.Bool.{ltb-true, lt-ltb}
use Rattle.std.proofs.lemmas.List.Folds.{list_all-append, list_any-append}
use Rattle.std.proofs.lemmas.List.Elements.{filter-append}
use Rattle.data_layout.specs.declared.row.Row.{Row}
use Rattle.data_layout.specs.Rows.{rank}
use Rattle.data_layout.specs.Storage.{goes_on}
use Rattle.data_names.specs.Spots.{open_after, around}

-- ---- tests

pub both : (a b : Bool) → (a && b) ≡ true → (a ≡ true) × (b ≡ true)
both true b h = (refl, h)
both false b h = cc

pub both_are : (a b : Bool) → a ≡ true → b ≡ true → (a && b) ≡ true
both_are a b h k = rw (h, k) refl

pub neither : (a b : Bool) → (a || b) ≡ false → (a ≡ false) × (b ≡ false)
neither true b h = cc
neither false b h = (refl, h)

pub neither_is : (a b : Bool) → a ≡ false → b ≡ false → (a || b) ≡ false
neither_is a b h k = rw (h, k) refl

pub not_both : (a b : Bool) → b ≡ false → (a && b) ≡ false
not_both true b h = h
not_both false b h = refl

-- ---- levels

pub goes_further : (a b c : Row) → goes_on a b ≡ true → goes_on b c ≡ true → goes_on a c ≡ true
goes_further a b c h k =
    let one = both (not b.starts) (nat_lt (rank a.level) (rank b.level)) h in
    let two = both (not c.starts) (nat_lt (rank b.level) (rank c.level)) k in
    let less : rank a.level < rank b.level = ltb-true (rank a.level) (rank b.level) one.1 in
    let more : rank b.level < rank c.level = ltb-true (rank b.level) (rank c.level) two.1 in
    both_are (not c.starts) (nat_lt (rank a.level) (rank c.level)) two.0 (lt-ltb (rank a.level) (rank c.level) (omega arith))

pub all_further : {A : Type 0} (row : A → Row) (a b : Row) (xs : List A) → goes_on a b ≡ true → list_all (λ x. goes_on b (row x)) xs ≡ true
    → list_all (λ x. goes_on a (row x)) xs ≡ true
all_further row a b [] h k = refl
all_further row a b (x ∷ xs) h k =
    let parts = both (goes_on b (row x)) (list_all (λ y. goes_on b (row y)) xs) k in
    both_are (goes_on a (row x)) (list_all (λ y. goes_on a (row y)) xs) (goes_further a b (row x) h parts.0) (all_further row a b xs h parts.1)

-- ---- the open entries where a group and some of its members come last

open_first : {A : Type 0} (x : A) (xs : List A) (b : Bool) → b ≡ true → (if b then x ∷ xs else xs) ≡ x ∷ xs
open_first x xs b h = rw h refl

-- a group ahead is open at the end exactly where it was and the group goes on in it
ahead_is : {A : Type 0} (row : A → Row) (a : A) (ahead : List A) (g : A) (pre : List A) (b : Bool) → goes_on (row a) (row g) ≡ b
    → list_all (λ x. goes_on (row g) (row x)) pre ≡ true
    → list_all (λ x. goes_on (row a) (row x)) (ahead ++ g ∷ pre) ≡ (list_all (λ x. goes_on (row a) (row x)) ahead && b)
ahead_is row a ahead g pre true e h =
    list_all-append (λ x. goes_on (row a) (row x)) ahead (g ∷ pre)
    ∙ ap (λ c. list_all (λ x. goes_on (row a) (row x)) ahead && c)
    (both_are (goes_on (row a) (row g)) (list_all (λ x. goes_on (row a) (row x)) pre) e (all_further row (row a) (row g) pre e h))
ahead_is row a ahead g pre false e h =
    list_all-append (λ x. goes_on (row a) (row x)) ahead (g ∷ pre)
    ∙ ap (λ c. list_all (λ x. goes_on (row a) (row x)) ahead && c) (ap (λ c. c && list_all (λ x. goes_on (row a) (row x)) pre) e)

chosen : {A : Type 0} (test : A → Bool) (a : A) (xs ys : List A) (o b : Bool) → test a ≡ b
    → (if o && b then a ∷ (filter test xs ++ ys) else filter test xs ++ ys) ≡ filter test (if o then a ∷ xs else xs) ++ ys
chosen test a xs ys true true e = rw e refl
chosen test a xs ys true false e = rw e refl
chosen test a xs ys false b e = refl

pub open_inside : {A : Type 0} (row : A → Row) (ahead : List A) (g : A) (pre : List A) → list_all (λ x. goes_on (row g) (row x)) pre ≡ true
    → open_after row (ahead ++ g ∷ pre) ≡ around row ahead g ++ g ∷ open_after row pre
open_inside row [] g pre h = open_first g (open_after row pre) (list_all (λ x. goes_on (row g) (row x)) pre) h
open_inside row (a ∷ ahead) g pre h =
    ap (λ b. if b then a ∷ open_after row (ahead ++ g ∷ pre) else open_after row (ahead ++ g ∷ pre)) (ahead_is row a ahead g pre (goes_on (row a) (row g)) refl h)
    ∙ ap (λ xs. if list_all (λ x. goes_on (row a) (row x)) ahead && goes_on (row a) (row g) then a ∷ xs else xs) (open_inside row ahead g pre h)
    ∙ chosen (λ x. goes_on (row x) (row g)) a (open_after row ahead) (g ∷ open_after row pre) (list_all (λ x. goes_on (row a) (row x)) ahead) (goes_on (row a) (row g)) refl

-- ---- what no group has

none_step : {A : Type 0} (p : A → Bool) (x : A) (xs : List A) (b : Bool) → p x ≡ false → list_any p xs ≡ false → list_any p (if b then x ∷ xs else xs) ≡ false
none_step p x xs true h k = neither_is (p x) (list_any p xs) h k
none_step p x xs false h k = k

-- what none has, none of those that are chosen has
pub none_chosen : {A : Type 0} (p q : A → Bool) (xs : List A) → list_any p xs ≡ false → list_any p (filter q xs) ≡ false
none_chosen p q [] h = refl
none_chosen p q (x ∷ xs) h =
    let parts = neither (p x) (list_any p xs) h in none_step p x (filter q xs) (q x) parts.0 (none_chosen p q xs parts.1)

pub none_open : {A : Type 0} (row : A → Row) (p : A → Bool) (xs : List A) → list_any p xs ≡ false → list_any p (open_after row xs) ≡ false
none_open row p [] h = refl
none_open row p (x ∷ xs) h =
    let parts = neither (p x) (list_any p xs) h in
    none_step p x (open_after row xs) (list_all (λ other. goes_on (row x) (row other)) xs) parts.0 (none_open row p xs parts.1)

-- an entry that does not go on in a group goes on in none of its members
false_of : (b : Bool) → (b ≡ true → ⊥) → b ≡ false
false_of true h = absurd (h refl)
false_of false h = refl

goes_nowhere : (g m y : Row) → goes_on g m ≡ true → goes_on g y ≡ false → goes_on m y ≡ false
goes_nowhere g m y h k = false_of (goes_on m y) (λ e. let f : goes_on g y ≡ true = goes_further g m y h e in cc)

pub none_of_members : {A : Type 0} (row : A → Row) (g : Row) (y : A) (ms : List A) → list_all (λ x. goes_on g (row x)) ms ≡ true → goes_on g (row y) ≡ false
    → list_any (λ m. goes_on (row m) (row y)) ms ≡ false
none_of_members row g y [] h k = refl
none_of_members row g y (m ∷ ms) h k =
    let parts = both (goes_on g (row m)) (list_all (λ x. goes_on g (row x)) ms) h in
    neither_is (goes_on (row m) (row y)) (list_any (λ x. goes_on (row x) (row y)) ms) (goes_nowhere g (row m) (row y) parts.0 k) (none_of_members row g y ms parts.1 k)

-- of a list in none of which the entry goes on none is chosen
not_chosen : {A : Type 0} (q : A → Bool) (x : A) (xs : List A) → q x ≡ false → filter q xs ≡ [] → filter q (x ∷ xs) ≡ []
not_chosen q x xs h k = rw (h, k) refl

pub none_left : {A : Type 0} (q : A → Bool) (xs : List A) → list_any q xs ≡ false → filter q xs ≡ []
none_left q [] h = refl
none_left q (x ∷ xs) h = let parts = neither (q x) (list_any q xs) h in not_chosen q x xs parts.0 (none_left q xs parts.1)

-- the groups behind a group and its members: those of the group in which the entry goes on, and itself
pub around_inside : {A : Type 0} (row : A → Row) (before : List A) (x : A) (ms : List A) (y : A) → list_all (λ m. goes_on (row x) (row m)) ms ≡ true
    → around row (before ++ x ∷ ms) y ≡ filter (λ g. goes_on (row g) (row y)) (around row before x) ++ filter (λ g. goes_on (row g) (row y)) (x ∷ open_after row ms)
around_inside row before x ms y h =
    ap (filter (λ g. goes_on (row g) (row y))) (open_inside row before x ms h) ∙ filter-append (λ g. goes_on (row g) (row y)) (around row before x) (x ∷ open_after row ms)

any_first : {A : Type 0} (p : A → Bool) (x : A) (xs : List A) (b : Bool) → (b && p x) ≡ false → list_any p xs ≡ false → list_any p (if b then x ∷ xs else xs) ≡ false
any_first p x xs true h k = neither_is (p x) (list_any p xs) h k
any_first p x xs false h k = k

-- What none of an entry's groups has, none of the next entry's has, where the entry has it not or the next is not in it.
pub clear_after_one : {A : Type 0} (row : A → Row) (p : A → Bool) (before : List A) (x y : A) → list_any p (around row before x) ≡ false
    → (goes_on (row x) (row y) && p x) ≡ false → list_any p (around row (before ++ x ∷ []) y) ≡ false
clear_after_one row p before x y h k =
    ap (list_any p) (around_inside row before x [] y refl)
    ∙ list_any-append p (filter (λ g. goes_on (row g) (row y)) (around row before x)) (filter (λ g. goes_on (row g) (row y)) (x ∷ []))
    ∙ neither_is _ _ (none_chosen p (λ g. goes_on (row g) (row y)) (around row before x) h) (any_first p x [] (goes_on (row x) (row y)) k refl)

-- the same behind a group with all of its members
pub clear_after_group : {A : Type 0} (row : A → Row) (p : A → Bool) (before : List A) (x : A) (ms : List A) (y : A) → list_any p (around row before x) ≡ false
    → list_all (λ m. goes_on (row x) (row m)) ms ≡ true → goes_on (row x) (row y) ≡ false → list_any p (around row (before ++ x ∷ ms) y) ≡ false
clear_after_group row p before x ms y h all k =
    let left : filter (λ g. goes_on (row g) (row y)) (x ∷ open_after row ms) ≡ [] =
    not_chosen (λ g. goes_on (row g) (row y)) x (open_after row ms) k
    (none_left (λ g. goes_on (row g) (row y)) (open_after row ms) (none_open row (λ g. goes_on (row g) (row y)) ms (none_of_members row (row x) y ms all k))) in
    ap (list_any p) (around_inside row before x ms y all)
    ∙ list_any-append p (filter (λ g. goes_on (row g) (row y)) (around row before x)) (filter (λ g. goes_on (row g) (row y)) (x ∷ open_after row ms))
    ∙ neither_is _ _ (none_chosen p (λ g. goes_on (row g) (row y)) (around row before x) h) (ap (list_any p) left)

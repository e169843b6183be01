-- The bytes of a record and of what lies in it.
use Rattle.std.proofs.Common.{◌≡◌, ◌∙◌, refl, sym, ap, arith, ℕ, ◌+◌, ◌*◌, ◌≤◌, Bool, true, false, not, ◌&&◌, nat_lt, List, [], ◌∷◌, ◌++◌, append_assoc, append-nil, add-one, take, drop, Option, Some, None}
use Rattle.std.specs.Prelude.{if◌then◌else◌, take_while, is_some}
use Rattle.std.specs.List.{list_all, prefix_len}
use Rattle.std.proofs.lemmas.Bool.Decides.{nat_tests}
use Rattle.std.proofs.lemmas.List.{take-append-drop}
use Rattle.std.proofs.lemmas.List.Folds.{list_all-append}
use Rattle.data_layout.specs.declared.row.Row.{Row}
use Rattle.data_layout.specs.Rows.{rank}
use Rattle.data_layout.specs.Storage.{goes_on, opened, members, own_size, number_of_times, times, bytes_after, storage}
use Rattle.data_layout.specs.Layout.{size_of}
use Rattle.data_layout.proofs.Groups.{storage-append}
use Rattle.data_layout.proofs.Places.{size_le}

-- ---- the front of a list that passes

one_more : (n : ℕ) (x : Row) (xs : List Row) → take (1 + n) (x ∷ xs) ≡ x ∷ take n xs
one_more n x xs = let e : 1 + n ≡ n + 1 = omega arith in rw (e, add-one) refl

while_step : (p : Row → Bool) (b : Bool) (x : Row) (xs : List Row) → p x ≡ b → take_while p (x ∷ xs) ≡ (if b then x ∷ take_while p xs else [])
while_step p true x xs e = rw e (one_more (prefix_len p xs) x xs)
while_step p false x xs e = rw e refl

all_first : (a b : Bool) → (a && b) ≡ true → (a ≡ true) × (b ≡ true)
all_first true b e = (refl, e)
all_first false b e = cc e

pub front_passes : (p : Row → Bool) (xs ys : List Row) → list_all p xs ≡ true → take_while p (xs ++ ys) ≡ xs ++ take_while p ys
front_passes p [] ys e = refl
front_passes p (x ∷ xs) ys e =
    let parts = all_first (p x) (list_all p xs) e in while_step p true x (xs ++ ys) parts.0 ∙ ap (λ zs. x ∷ zs) (front_passes p xs ys parts.1)

chosen_all : (p q : Row → Bool) (b : Bool) (x : Row) (xs : List Row) → q x ≡ true → list_all q xs ≡ true → list_all q (if b then x ∷ xs else []) ≡ true
chosen_all p q true x xs e h = rw (e, h) refl
chosen_all p q false x xs e h = refl

-- what holds of all holds of the front
pub while_all : (p q : Row → Bool) (xs : List Row) → list_all q xs ≡ true → list_all q (take_while p xs) ≡ true
while_all p q [] e = refl
while_all p q (x ∷ xs) e =
    let parts = all_first (q x) (list_all q xs) e in rw (while_step p (p x) x xs refl) (chosen_all p q (p x) x (take_while p xs) parts.0 (while_all p q xs parts.1))

passing_front : (p : Row → Bool) (b : Bool) (x : Row) (xs : List Row) → p x ≡ b → list_all p xs ≡ true → list_all p (if b then x ∷ xs else []) ≡ true
passing_front p true x xs e h = rw (e, h) refl
passing_front p false x xs e h = refl

while_passes : (p : Row → Bool) (xs : List Row) → list_all p (take_while p xs) ≡ true
while_passes p [] = refl
while_passes p (x ∷ xs) = rw (while_step p (p x) x xs refl) (passing_front p (p x) x (take_while p xs) refl (while_passes p xs))

while_twice : (p : Row → Bool) (xs : List Row) → take_while p (take_while p xs) ≡ take_while p xs
while_twice p xs = ap (take_while p) (sym (append-nil (take_while p xs))) ∙ front_passes p (take_while p xs) [] (while_passes p xs) ∙ append-nil (take_while p xs)

-- ---- a row that begins a section

and_false : (b : Bool) → (b && false) ≡ false
and_false true = refl
and_false false = refl

none_goes : (a : Row) (ahead : List Row) (g : Row) (rest : List Row) → g.starts ≡ true → list_all (goes_on a) (ahead ++ g ∷ rest) ≡ false
none_goes a [] g rest e = rw e refl
none_goes a (x ∷ ahead) g rest e = rw (none_goes a ahead g rest e) (and_false (goes_on a x))

opened_fresh : (ahead : List Row) (g : Row) (rest : List Row) → g.starts ≡ true → opened (ahead ++ g ∷ rest) ≡ opened (g ∷ rest)
opened_fresh [] g rest e = refl
opened_fresh (a ∷ ahead) g rest e = rw (none_goes a ahead g rest e) (opened_fresh ahead g rest e)

bytes_fresh : (ahead : List Row) (g : Row) (before rest : List Row) → g.starts ≡ true → bytes_after (ahead ++ g ∷ before) rest ≡ bytes_after (g ∷ before) rest
bytes_fresh ahead g before [] e = refl
bytes_fresh ahead g before (x ∷ rest) e =
    let more : (ahead ++ g ∷ before) ++ x ∷ [] ≡ ahead ++ g ∷ (before ++ x ∷ []) = append_assoc ahead (g ∷ before) (x ∷ []) in
    let here : opened ((ahead ++ g ∷ before) ++ x ∷ []) ≡ opened ((g ∷ before) ++ x ∷ []) = ap opened more ∙ opened_fresh ahead g (before ++ x ∷ []) e in
    let later : bytes_after ((ahead ++ g ∷ before) ++ x ∷ []) rest ≡ bytes_after ((g ∷ before) ++ x ∷ []) rest =
    ap (λ front. bytes_after front rest) more ∙ bytes_fresh ahead g (before ++ x ∷ []) rest e in
    ap (λ rows. own_size x * times rows + bytes_after ((ahead ++ g ∷ before) ++ x ∷ []) rest) here ∙ ap (λ n. own_size x * times (opened ((g ∷ before) ++ x ∷ [])) + n) later

section_bytes : (ahead : List Row) (g : Row) (rest : List Row) → g.starts ≡ true → bytes_after ahead (g ∷ rest) ≡ storage (g ∷ rest)
section_bytes ahead g rest e =
    ap (λ rows. own_size g * times rows + bytes_after (ahead ++ g ∷ []) rest) (opened_fresh ahead g [] e)
    ∙ ap (λ n. own_size g * times (opened (g ∷ [])) + n) (bytes_fresh ahead g [] rest e)

-- ---- what lies in a record

-- behind the row that begins a record and members of it no more bytes come than the record has
within_begun : (ahead : List Row) (g : Row) (middle : List Row) (rest : List Row) → g.starts ≡ true → list_all (goes_on g) middle ≡ true
    → storage (ahead ++ g ∷ middle) ≤ storage ahead + storage (g ∷ members g (middle ++ rest))
within_begun ahead g middle rest e front =
    let parts : members g (middle ++ rest) ≡ middle ++ members g rest = front_passes (goes_on g) middle rest front in
    let all : storage (g ∷ (middle ++ members g rest)) ≡ storage (g ∷ middle) + bytes_after (g ∷ middle) (members g rest) = storage-append (g ∷ middle) (members g rest) in
    let whole : storage (g ∷ members g (middle ++ rest)) ≡ storage (g ∷ (middle ++ members g rest)) = ap (λ rows. storage (g ∷ rows)) parts in
    let here : storage (ahead ++ g ∷ middle) ≡ storage ahead + bytes_after ahead (g ∷ middle) = storage-append ahead (g ∷ middle) in
    let own : bytes_after ahead (g ∷ middle) ≡ storage (g ∷ middle) = section_bytes ahead g middle e in
    omega (arith, all, whole, here, own)

pub within_record : (ahead : List Row) (g : Row) (middle : List Row) (k : Row) (rest : List Row) → g.starts ≡ true → list_all (goes_on g) (middle ++ k ∷ []) ≡ true
    → storage (ahead ++ g ∷ middle) ≤ storage ahead + storage (g ∷ members g (middle ++ k ∷ rest))
within_record ahead g middle k rest e h =
    within_begun ahead g middle (k ∷ rest) e (all_first (list_all (goes_on g) middle) (list_all (goes_on g) (k ∷ [])) (sym (list_all-append (goes_on g) middle (k ∷ [])) ∙ h)).0

pub no_less : (ahead rest : List Row) → storage ahead ≤ storage (ahead ++ rest)
no_less ahead rest = omega (arith, storage-append ahead rest)

own_part : (b : Bool) (row : Row) (rest : List Row) → (if b then storage (members row (members row rest)) else row.size) ≡ (if b then storage (members row rest) else row.size)
own_part b row rest = ap (λ rows. if b then storage rows else row.size) (while_twice (goes_on row) rest)

-- a record has the bytes of its members
pub size_within : (row : Row) (rest : List Row) → size_of row rest ≤ storage (row ∷ members row rest)
size_within row rest = omega (arith, size_le [] row (members row rest), own_part row.group row rest)

-- ---- where what lies in a record ends

deeper : (a b c : ℕ) → nat_lt a b ≡ true → nat_lt b c ≡ true → nat_lt a c ≡ true
deeper a b c h k = grind (arith, nat_tests)

goes_further : (g k x : Row) → goes_on g k ≡ true → goes_on k x ≡ true → goes_on g x ≡ true
goes_further g k x h i =
    let outer = all_first (not k.starts) _ h in
    let inner = all_first (not x.starts) _ i in
    rw (inner.0, deeper (rank g.level) (rank k.level) (rank x.level) outer.1 inner.1) refl

all_further : (g k : Row) (rows : List Row) → goes_on g k ≡ true → list_all (goes_on k) rows ≡ true → list_all (goes_on g) rows ≡ true
all_further g k [] h i = refl
all_further g k (x ∷ rows) h i = let parts = all_first (goes_on k x) _ i in rw (goes_further g k x h parts.0, all_further g k rows h parts.1) refl

-- what stands in a record ends where the record does, or before
pub ends_within : (ahead : List Row) (g : Row) (middle : List Row) (k : Row) (rest : List Row) → g.starts ≡ true → list_all (goes_on g) (middle ++ k ∷ []) ≡ true
    → storage (ahead ++ g ∷ middle) + size_of k rest ≤ storage ahead + storage (g ∷ members g (middle ++ k ∷ rest))
ends_within ahead g middle k rest e h =
    let inside : List Row = members k rest in
    let left : List Row = drop (prefix_len (goes_on k) rest) rest in
    let parts = all_first (list_all (goes_on g) middle) (list_all (goes_on g) (k ∷ [])) (sym (list_all-append (goes_on g) middle (k ∷ [])) ∙ h) in
    let here : goes_on g k ≡ true = (all_first (goes_on g k) true parts.1).0 in
    let later : list_all (goes_on g) (k ∷ inside) ≡ true = rw (here, all_further g k inside here (while_passes (goes_on k) rest)) refl in
    let all : list_all (goes_on g) (middle ++ k ∷ inside) ≡ true = list_all-append (goes_on g) middle (k ∷ inside) ∙ rw (parts.0, later) refl in
    let whole : (middle ++ k ∷ inside) ++ left ≡ middle ++ k ∷ rest = append_assoc middle (k ∷ inside) left ∙ ap (λ rows. middle ++ k ∷ rows) (take-append-drop (prefix_len (goes_on k) rest) rest) in
    let front : (ahead ++ g ∷ middle) ++ k ∷ inside ≡ ahead ++ g ∷ (middle ++ k ∷ inside) = append_assoc ahead (g ∷ middle) (k ∷ inside) in
    let end = within_begun ahead g (middle ++ k ∷ inside) left e all in
    let same : storage (g ∷ members g ((middle ++ k ∷ inside) ++ left)) ≡ storage (g ∷ members g (middle ++ k ∷ rest)) = ap (λ rows. storage (g ∷ members g rows)) whole in
    omega (arith, size_le (ahead ++ g ∷ middle) k inside, own_part k.group k rest, ap storage front, end, same)

once_alone : (o : Option ℕ) → is_some o ≡ false → number_of_times o ≡ 1
once_alone None e = refl
once_alone (Some number) e = cc e

times_alone : (b : Bool) (g : Row) (rows : List Row) → number_of_times g.occurs ≡ 1 → times (if b then g ∷ rows else rows) ≡ times rows
times_alone true g rows e = rw e (omega arith)
times_alone false g rows e = refl

bytes_alone : (g : Row) (before rows : List Row) → number_of_times g.occurs ≡ 1 → bytes_after (g ∷ before) rows ≡ bytes_after before rows
bytes_alone g before [] e = refl
bytes_alone g before (x ∷ rows) e =
    let here : times (opened (g ∷ (before ++ x ∷ []))) ≡ times (opened (before ++ x ∷ [])) = times_alone (list_all (goes_on g) (before ++ x ∷ [])) g (opened (before ++ x ∷ [])) e in
    ap (λ n. own_size x * n + bytes_after (g ∷ (before ++ x ∷ [])) rows) here ∙ ap (λ n. own_size x * times (opened (before ++ x ∷ [])) + n) (bytes_alone g (before ++ x ∷ []) rows e)

-- a group without OCCURS has the bytes of its members, and no more
pub group_bytes : (g : Row) (rest : List Row) → g.group ≡ true → is_some g.occurs ≡ false → storage (g ∷ members g rest) ≡ size_of g rest
group_bytes g rest e o =
    let none : own_size g ≡ 0 = ap (λ (b : Bool). if b then 0 else g.size) e in
    let size : size_of g rest ≡ storage (members g rest) = ap (λ (b : Bool). if b then storage (members g rest) else g.size) e in
    ap (λ n. n * times (opened (g ∷ [])) + bytes_after (g ∷ []) (members g rest)) none ∙ omega (arith, bytes_alone g [] (members g rest) (once_alone g.occurs o), size)

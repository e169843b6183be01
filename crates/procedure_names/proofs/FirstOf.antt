-- The first of those that pass.
use Rattle.std.proofs.Common.{◌≡◌, ◌∙◌, refl, sym, ap, subst, arith, ℕ, zero, suc, ◌+◌, ◌<◌, ◌≤◌, Bool, true, false, List, [], ◌∷◌, ◌++◌, length, map, Option, Some, None}
use Rattle.std.specs.Prelude.{if◌then◌else◌, nat_lt, ◌||◌, find, is_some, position, slice_get}
use Rattle.std.specs.List.{list_any, position_from, position_or_len}
use Rattle.std.proofs.lemmas.List.Folds.{find_at}
use Rattle.std.proofs.lemmas.Option.{slice_get_past}
use Rattle.std.proofs.lemmas.Bool.Decides.{nat_tests}
use Rattle.std.proofs.lemmas.Iterator.Adapters.{position_from-zero}
use Rattle.data_names.specs.Clauses.{or_next}
use Rattle.procedure_names.specs.Firsts.{at_number}

number_or_none : (b : Bool) (n m : ℕ) → n ≡ m → (if b then Some n else None) ≡ (if b then Some m else None)
number_or_none b n m e = ap (λ k. if b then Some k else None) e

first_step : (b : Bool) (n : ℕ) (rest more : Option ℕ) (next : Option ℕ) → more ≡ or_next rest next → (if b then Some n else more) ≡ or_next (if b then Some n else rest) next
first_step true n rest more next e = refl
first_step false n rest more next e = e

pub position_from-push : {A : Type 0} (test : A → Bool) (n : ℕ) (xs : List A) (x : A) → position_from test n (xs ++ x ∷ []) ≡ or_next (position_from test n xs) (if test x then Some (n + length xs) else None)
position_from-push test n [] x = number_or_none (test x) n (n + 0) (omega arith)
position_from-push test n (y ∷ xs) x =
    first_step (test y) n (position_from test (n + 1) xs) _ _
    (position_from-push test (n + 1) xs x ∙ ap (or_next (position_from test (n + 1) xs)) (number_or_none (test x) ((n + 1) + length xs) (n + length (y ∷ xs)) (omega arith)))

-- one more
pub position-push : {A : Type 0} (test : A → Bool) (xs : List A) (x : A) → position test (xs ++ x ∷ []) ≡ or_next (position test xs) (if test x then Some (length xs) else None)
position-push test xs x =
    position_from-zero test (xs ++ x ∷ []) ∙ position_from-push test 0 xs x ∙ ap (or_next (position_from test 0 xs)) (number_or_none (test x) (0 + length xs) (length xs) (omega arith))
    ∙ ap (λ first. or_next first (if test x then Some (length xs) else None)) (sym (position_from-zero test xs))

pub none_next : (first : Option ℕ) → or_next first None ≡ first
none_next None = refl
none_next (Some n) = refl

-- ---- other lists and other tests

same_choice : (b : Bool) (n : ℕ) (x y : Option ℕ) → x ≡ y → (if b then Some n else x) ≡ (if b then Some n else y)
same_choice b n x y e = ap (λ o. if b then Some n else o) e

position_from-map : {A B : Type 0} (test : B → Bool) (f : A → B) (n : ℕ) (xs : List A) → position_from test n (map f xs) ≡ position_from (λ x. test (f x)) n xs
position_from-map test f n [] = refl
position_from-map test f n (x ∷ xs) = same_choice (test (f x)) n _ _ (position_from-map test f (n + 1) xs)

pub position-map : {A B : Type 0} (test : B → Bool) (f : A → B) (xs : List A) → position test (map f xs) ≡ position (λ x. test (f x)) xs
position-map test f xs = position_from-zero test (map f xs) ∙ position_from-map test f 0 xs ∙ sym (position_from-zero (λ x. test (f x)) xs)

position_from-same : {A : Type 0} (p q : A → Bool) → ((x : A) → p x ≡ q x) → (n : ℕ) (xs : List A) → position_from p n xs ≡ position_from q n xs
position_from-same p q h n [] = refl
position_from-same p q h n (x ∷ xs) =
    ap (λ b. if b then Some n else position_from p (n + 1) xs) (h x) ∙ same_choice (q x) n _ _ (position_from-same p q h (n + 1) xs)

pub position-same : {A : Type 0} (p q : A → Bool) → ((x : A) → p x ≡ q x) → (xs : List A) → position p xs ≡ position q xs
position-same p q h xs = position_from-zero p xs ∙ position_from-same p q h 0 xs ∙ sym (position_from-zero q xs)

-- ---- what stands at the number

first_is : (b : Bool) (n k : ℕ) → (if b then Some n else None) ≡ Some k → n ≡ k
first_is true n k e = cc
first_is false n k e = cc

pub found_at : {A : Type 0} (p : A → Bool) (xs : List A) (k : ℕ) → position p xs ≡ Some k → find p xs ≡ slice_get xs k
found_at p xs k e = find_at p xs ∙ ap (slice_get xs) (first_is (nat_lt (position_or_len p xs) (length xs)) (position_or_len p xs) k e)

none_past : (b : Bool) (n m : ℕ) → nat_lt n m ≡ b → (if b then Some n else None) ≡ None → m ≤ n
none_past true n m t e = cc
none_past false n m t e = grind (arith, nat_tests)

pub found_nowhere : {A : Type 0} (p : A → Bool) (xs : List A) → position p xs ≡ None → find p xs ≡ None
found_nowhere p xs e =
    find_at p xs ∙ slice_get_past xs (position_or_len p xs) (none_past (nat_lt (position_or_len p xs) (length xs)) (position_or_len p xs) (length xs) refl e)

first_within : (b : Bool) (n m i : ℕ) → nat_lt n m ≡ b → (if b then Some n else None) ≡ Some i → i < m
first_within true n m i t e = let same : n ≡ i = cc in subst (λ (k : ℕ). k < m) same (grind (arith, nat_tests))
first_within false n m i t e = cc

pub position_within : {A : Type 0} (test : A → Bool) (xs : List A) (i : ℕ) → position test xs ≡ Some i → i < length xs
position_within test xs i e = first_within (nat_lt (position_or_len test xs) (length xs)) (position_or_len test xs) (length xs) i refl e

pub found_by : {A : Type 0} (p : A → Bool) (xs : List A) (number : Option ℕ) → number ≡ position p xs → find p xs ≡ at_number xs number
found_by p xs None e = found_nowhere p xs (sym e)
found_by p xs (Some k) e = found_at p xs k (sym e)

some_there : {A : Type 0} (xs : List A) (k : ℕ) → k < length xs → is_some (slice_get xs k) ≡ true
some_there [] k h = absurd (omega arith)
some_there (x ∷ xs) zero h = refl
some_there (x ∷ xs) (suc k) h = some_there xs k (omega arith)

pub is_found : {A : Type 0} (p : A → Bool) (xs : List A) (number : Option ℕ) → number ≡ position p xs → is_some number ≡ is_some (find p xs)
is_found p xs None e = ap is_some (sym (found_nowhere p xs (sym e)))
is_found p xs (Some k) e = sym (ap is_some (found_at p xs k (sym e)) ∙ some_there xs k (position_within p xs k (sym e)))

some_or : {A : Type 0} (b : Bool) (x : A) (o : Option A) (c : Bool) → is_some o ≡ c → is_some (if b then Some x else o) ≡ (b || c)
some_or true x o c e = refl
some_or false x o c e = e

pub any_found : {A : Type 0} (p : A → Bool) (xs : List A) → is_some (find p xs) ≡ list_any p xs
any_found p [] = refl
any_found p (x ∷ xs) = some_or (p x) x (find p xs) (list_any p xs) (any_found p xs)

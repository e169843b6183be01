-- The numbers of those that pass, one by one.
use Rattle.std.proofs.Common.{◌≡◌, ◌∙◌, refl, ap, sym, arith, ℕ, ◌+◌, Bool, true, false, List, [], ◌∷◌, ◌++◌, length, map, append-nil, take, get_or, ◌<◌, ◌≤◌}
use Rattle.std.proofs.lemmas.List.{take_more, length-take-le}
use Rattle.std.specs.Prelude.{if◌then◌else◌}
use Rattle.data_names.specs.Names.{numbers_from}

one_number : (b : Bool) (n m : ℕ) → n ≡ m → (if b then n ∷ [] else []) ≡ (if b then m ∷ [] else [])
one_number b n m e = ap (λ k. if b then k ∷ [] else []) e

pushed : (b : Bool) (n : ℕ) (front back all : List ℕ) → all ≡ front ++ back → (if b then n ∷ all else all) ≡ (if b then n ∷ front else front) ++ back
pushed true n front back all e = ap (λ xs. n ∷ xs) e
pushed false n front back all e = e

-- one more
pub numbers_from-push : {A : Type 0} (n : ℕ) (test : A → Bool) (xs : List A) (x : A) → numbers_from n test (xs ++ x ∷ []) ≡ numbers_from n test xs ++ (if test x then (n + length xs) ∷ [] else [])
numbers_from-push n test [] x = one_number (test x) n (n + 0) (omega arith)
numbers_from-push n test (y ∷ xs) x =
    pushed (test y) n (numbers_from (n + 1) test xs) _ _ (numbers_from-push (n + 1) test xs x ∙ ap (λ b. numbers_from (n + 1) test xs ++ b) (one_number (test x) ((n + 1) + length xs) (n + length (y ∷ xs)) (omega arith)))

pub added_or_not : (b : Bool) (old : List ℕ) (n : ℕ) → (if b then old ++ n ∷ [] else old) ≡ old ++ (if b then n ∷ [] else [])
added_or_not true old n = refl
added_or_not false old n = sym (append-nil old)

same_choice : (b : Bool) (n : ℕ) (xs ys : List ℕ) → xs ≡ ys → (if b then n ∷ xs else xs) ≡ (if b then n ∷ ys else ys)
same_choice b n xs ys e = ap (λ zs. if b then n ∷ zs else zs) e

pub numbers_from-map : {A B : Type 0} (n : ℕ) (f : A → B) (test : B → Bool) (xs : List A) → numbers_from n test (map f xs) ≡ numbers_from n (λ x. test (f x)) xs
numbers_from-map n f test [] = refl
numbers_from-map n f test (x ∷ xs) = same_choice (test (f x)) n _ _ (numbers_from-map (n + 1) f test xs)

-- with the item at a place
pub numbers-more : {A : Type 0} (test : A → Bool) (xs : List A) (at : ℕ) (x : A) (old new : List ℕ) → at < length xs → x ≡ get_or xs at x
    → old ≡ numbers_from 0 test (take at xs) → new ≡ (if test x then old ++ at ∷ [] else old) → new ≡ numbers_from 0 test (take (at + 1) xs)
numbers-more test xs at x old new h e o n =
    let more : take (at + 1) xs ≡ take at xs ++ x ∷ [] = take_more xs at x h ∙ ap (λ y. take at xs ++ y ∷ []) (sym e) in
    let within : at ≤ length xs = omega arith in
    let counted : at ≡ 0 + length (take at xs) = omega (arith, length-take-le at xs within) in
    n ∙ added_or_not (test x) old at ∙ ap (λ front. front ++ (if test x then at ∷ [] else [])) o ∙ ap (λ back. numbers_from 0 test (take at xs) ++ back) (one_number (test x) at (0 + length (take at xs)) counted)
    ∙ sym (numbers_from-push 0 test (take at xs) x) ∙ ap (numbers_from 0 test) (sym more)

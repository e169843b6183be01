-- The first of each name, one thing after another.
use Rattle.std.proofs.Common.{◌≡◌, ◌∙◌, refl, sym, ap, subst, arith, ℕ, ◌+◌, ◌<◌, ◌≤◌, List, [], ◌∷◌, ◌++◌, length, map, take, get_or, Option, Some, None}
use Rattle.std.specs.Prelude.{if◌then◌else◌, position}
use Rattle.std.proofs.lemmas.List.{take_more, take_all, length-take-le, length-map, map-append}
use Rattle.data_names.specs.Clauses.{or_next}
use Rattle.data_names.specs.Names.{is_under, in_small}
use Rattle.data_names.specs.References.{is_called}
use Rattle.procedure_names.specs.declared.firsts.Firsts.{Firsts}
use Rattle.procedure_names.specs.Firsts.{first_under, AreFirsts}
use Rattle.procedure_names.proofs.FirstOf.{position-push, none_next}

-- one more name
pub with_name : (names : List (Option (List ℕ))) (name : Option (List ℕ)) (number : ℕ) (old new : Firsts) → length names ≡ number → AreFirsts names old
    → ((key : List ℕ) → first_under new key ≡ or_next (first_under old key) (if is_under key name then Some number else None)) → AreFirsts (names ++ name ∷ []) new
with_name names name number old new e h step = λ key.
    step key ∙ ap (λ first. or_next first (if is_under key name then Some number else None)) (h key)
    ∙ ap (λ k. or_next (position (is_under key) names) (if is_under key name then Some k else None)) (sym e) ∙ sym (position-push (is_under key) names name)

-- a thing without a name
pub without_name : (names : List (Option (List ℕ))) (all : Firsts) → AreFirsts names all → AreFirsts (names ++ None ∷ []) all
without_name names all h = λ key. h key ∙ sym (position-push (is_under key) names None ∙ none_next (position (is_under key) names))

-- a name is called so where it is under it in small letters
pub called_is_under : (name : List ℕ) (other : Option (List ℕ)) → is_called name other ≡ is_under (in_small name) other
called_is_under name None = refl
called_is_under name (Some other) = refl

-- the things of a list, one by one
pub firsts_step : {A : Type 0} (f : A → Option (List ℕ)) (xs : List A) (at : ℕ) (x : A) (old new : Firsts) → at < length xs → x ≡ get_or xs at x → AreFirsts (map f (take at xs)) old
    → ((names : List (Option (List ℕ))) → length names ≡ at → AreFirsts names old → AreFirsts (names ++ f x ∷ []) new) → AreFirsts (map f (take (at + 1) xs)) new
firsts_step f xs at x old new h e known step =
    let within : at ≤ length xs = omega arith in
    let count : length (map f (take at xs)) ≡ at = length-map (take at xs) f ∙ length-take-le at xs within in
    let more : map f (take (at + 1) xs) ≡ map f (take at xs) ++ f x ∷ [] = ap (map f) (take_more xs at x h ∙ ap (λ y. take at xs ++ y ∷ []) (sym e)) ∙ map-append f (take at xs) (x ∷ []) in
    subst (λ names. AreFirsts names new) (sym more) (step (map f (take at xs)) count known)

pub firsts_all : {A : Type 0} (f : A → Option (List ℕ)) (xs : List A) (at : ℕ) (all : Firsts) → length xs ≤ at → AreFirsts (map f (take at xs)) all → AreFirsts (map f xs) all
firsts_all f xs at all h known = subst (λ some. AreFirsts (map f some) all) (take_all at xs h) known

-- Marks of the things of a list, in their order.
use Rattle.std.proofs.Common.{◌≡◌, ◌∙◌, sym, ap, arith, ℕ, ◌+◌, ◌<◌, ◌≤◌, Bool, false, List, [], ◌∷◌, ◌++◌, length, map, take, Option, Some}
use Rattle.std.specs.Prelude.{slice_get, unwrap_or, option_map}
use Rattle.std.proofs.lemmas.List.{length-map, map_more, take_all}
use Rattle.std.proofs.lemmas.Option.{slice_get-map, slice_get_within, get_or_from_slice_get}

pub marks_more : {A : Type 0} (f : A → Bool) (xs : List A) (n : ℕ) (x : A) (mark : Bool) (old new : List Bool) → slice_get xs n ≡ Some x → old ≡ map f (take n xs) → mark ≡ f x → new ≡ old ++ mark ∷ []
    → new ≡ map f (take (n + 1) xs)
marks_more f xs n x mark old new is so_far m e =
    e ∙ ap (λ (ms : List Bool). ms ++ mark ∷ []) so_far ∙ ap (λ (b : Bool). map f (take n xs) ++ b ∷ []) (m ∙ ap f (sym (get_or_from_slice_get xs n x x is)))
    ∙ sym (map_more f xs n x (slice_get_within xs n x is))

pub marks_all : {A : Type 0} (f : A → Bool) (xs : List A) (n : ℕ) (marks : List Bool) → length xs ≤ n → marks ≡ map f (take n xs) → marks ≡ map f xs
marks_all f xs n marks h e = e ∙ ap (map f) (take_all n xs h)

pub mark_is : {A : Type 0} (f : A → Bool) (xs : List A) (marks : List Bool) (n : ℕ) (x : A) (mark : Bool) → marks ≡ map f xs → slice_get xs n ≡ Some x → slice_get marks n ≡ Some mark → mark ≡ f x
mark_is f xs marks n x mark all is m =
    ap (λ (o : Option Bool). unwrap_or o false)
    (sym m ∙ ap (λ (ms : List Bool). slice_get ms n) all ∙ slice_get-map f xs n ∙ ap (option_map f) is)

pub mark_within : {A : Type 0} (f : A → Bool) (xs : List A) (marks : List Bool) (n : ℕ) (x : A) → marks ≡ map f xs → slice_get xs n ≡ Some x → n < length marks
mark_within f xs marks n x all is = omega (arith, ap length all, length-map xs f, slice_get_within xs n x is)

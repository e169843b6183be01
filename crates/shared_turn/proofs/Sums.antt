-- Sums over a list that is read by `get_elem?`, and facts of each of its elements.
use Rattle.std.proofs.Common.{◌≡◌, ◌≢◌, ℕ, zero, suc, ◌+◌, ◌*◌, ◌^◌, ◌≤◌, List, [], ◌∷◌, ◌++◌, set, refl, sym, ap, ◌∙◌, subst, ⊎_elim, arith}
use Rattle.std.specs.List.{sum_by}
use Rattle.std.proofs.lemmas.List.Sums.{sum_by-cons}
use mathlib.Core.Option.{some, some-injective, some-ne-none}
use mathlib.Core.Logic.{dite}
use native.Mathlib.Decide.{ℕ_discrete}
use lib.ListN.{get_elem?}
use Rattle.atomic_table.proofs.Lists.{at_set}

module _ {A : Type 0} where
  pub sum-set : (f : A → ℕ) (l : List A) (i : ℕ) (v w : A) → get_elem? l i ≡ some v → sum_by f (set l i w) + f v ≡ sum_by f l + f w
  sum-set f [] i v w e = absurd (some-ne-none v (sym e))
  sum-set f (x ∷ xs) zero v w e = let is : f x ≡ f v = ap f (some-injective x v e) in omega (arith, sum_by-cons f x xs, sum_by-cons f w xs)
  sum-set f (x ∷ xs) (suc i) v w e = let r = sum-set f xs i v w e in omega (arith, sum_by-cons f x xs, sum_by-cons f x (set xs i w))

  pub sum-same : (f : A → ℕ) (l : List A) (i : ℕ) (v w : A) → get_elem? l i ≡ some v → f w ≡ f v → sum_by f (set l i w) ≡ sum_by f l
  sum-same f l i v w e is = let s = sum-set f l i v w e in omega arith

  pub sum-at : (f : A → ℕ) (l : List A) (i : ℕ) (v : A) → get_elem? l i ≡ some v → f v ≤ sum_by f l
  sum-at f [] i v e = absurd (some-ne-none v (sym e))
  sum-at f (x ∷ xs) zero v e = let is : f x ≡ f v = ap f (some-injective x v e) in omega (arith, sum_by-cons f x xs)
  sum-at f (x ∷ xs) (suc i) v e = let r = sum-at f xs i v e in omega (arith, sum_by-cons f x xs)

  -- two places are at most the sum
  pub sum-two : (f : A → ℕ) (l : List A) (i j : ℕ) (v w : A) → i ≢ j → get_elem? l i ≡ some v → get_elem? l j ≡ some w → f v + f w ≤ sum_by f l
  sum-two f [] i j v w n e h = absurd (some-ne-none v (sym e))
  sum-two f (x ∷ xs) zero zero v w n e h = absurd (n refl)
  sum-two f (x ∷ xs) zero (suc j) v w n e h = let is : f x ≡ f v = ap f (some-injective x v e) in let r = sum-at f xs j w h in omega (arith, sum_by-cons f x xs)
  sum-two f (x ∷ xs) (suc i) zero v w n e h = let is : f x ≡ f w = ap f (some-injective x w h) in let r = sum-at f xs i v e in omega (arith, sum_by-cons f x xs)
  sum-two f (x ∷ xs) (suc i) (suc j) v w n e h = let r = sum-two f xs i j v w (λ k. n (ap suc k)) e h in omega (arith, sum_by-cons f x xs)

  pub sum-snoc : (f : A → ℕ) (l : List A) (a : A) → sum_by f (l ++ a ∷ []) ≡ sum_by f l + f a
  sum-snoc f [] a = omega (arith, sum_by-cons f a [])
  sum-snoc f (x ∷ xs) a = let r = sum-snoc f xs a in omega (arith, sum_by-cons f x xs, sum_by-cons f x (xs ++ a ∷ []))

  pub sum-over : (f g : A → ℕ) (l : List A) → ((j : ℕ) (v : A) → get_elem? l j ≡ some v → f v ≤ g v * 2 ^ 32) → sum_by f l ≤ sum_by g l * 2 ^ 32
  sum-over f g [] h = omega arith
  sum-over f g (x ∷ xs) h = let r = sum-over f g xs (λ j v e. h (suc j) v e) in let one = h 0 x refl in omega (arith, sum_by-cons f x xs, sum_by-cons g x xs)

  pub sum-le : (f g : A → ℕ) (l : List A) → ((v : A) → f v ≤ g v) → sum_by f l ≤ sum_by g l
  sum-le f g [] h = omega arith
  sum-le f g (x ∷ xs) h = let r = sum-le f g xs h in let one = h x in omega (arith, sum_by-cons f x xs, sum_by-cons g x xs)

  -- a sum above 0 has a place that is above 0
  pub sum-some : (f : A → ℕ) (l : List A) → 1 ≤ sum_by f l → (i : ℕ) × (v : A) × (get_elem? l i ≡ some v) × (1 ≤ f v)
  sum-some f [] h = absurd (omega arith)
  sum-some f (x ∷ xs) h = dite (ℕ_discrete (f x) 0)
      (λ none'. let r = sum-some f xs (omega (arith, sum_by-cons f x xs)) in let i : ℕ = r.0 in (suc i, r.1, r.2, r.3))
      (λ some'. (0, x, refl, omega arith))

  pub set-at : (l : List A) (i : ℕ) (v w : A) → get_elem? l i ≡ some v → get_elem? (set l i w) i ≡ some w
  set-at [] i v w e = absurd (some-ne-none v (sym e))
  set-at (x ∷ xs) zero v w e = refl
  set-at (x ∷ xs) (suc i) v w e = set-at xs i v w e

  pub each-set : (P : ℕ → A → Type 0) (l : List A) (i : ℕ) (w : A) → P i w → ((j : ℕ) (u : A) → j ≢ i → get_elem? l j ≡ some u → P j u) → (j : ℕ) (u : A) → get_elem? (set l i w) j ≡ some u → P j u
  each-set P l i w mine others j u e =
      ⊎_elim (λ (t : (j ≡ i) × (w ≡ u)). subst (λ (z : ℕ × A). P z.0 z.1) (λ k. (sym t.0 k, t.1 k)) mine) (λ (t : (j ≢ i) × (get_elem? l j ≡ some u)). others j u t.0 t.1) (at_set l i j w u e)

  pub one-of : (P : A → Type 0) (f : A) → P f → (k : ℕ) (g : A) → get_elem? (f ∷ []) k ≡ some g → P g
  one-of P f p zero g e = subst P (some-injective f g e) p
  one-of P f p (suc k) g e = absurd (some-ne-none g (sym e))

  pub same-at : (l : List A) (i j : ℕ) (v w : A) → get_elem? l i ≡ some v → get_elem? l j ≡ some w → j ≡ i → w ≡ v
  same-at l i j v w ei ej is = some-injective w v (sym ej ∙ (ap (get_elem? l) is ∙ ei))

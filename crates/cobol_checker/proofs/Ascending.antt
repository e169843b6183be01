-- Places that lie apart ascend strictly where they are sorted.
use Rattle.std.proofs.Common.{◌≡◌, ◌∙◌, ◌≢◌, ◌⊎◌, inl, inr, refl, sym, ap, arith, ℕ, ◌<◌, ◌≤◌, List, length, get_or}
use Rattle.std.specs.Prelude.{IsPermutation, swap}
use Rattle.std.specs.List.Sorted.{IsNonDecreasingBy}
use Rattle.std.proofs.lemmas.Bool.{cases_lt}
use Rattle.std.proofs.lemmas.Bool.Decides.{eqb_tells}
use Rattle.std.proofs.lemmas.List.Edits.{length-swap, swapped_from_swap}
use Rattle.std.proofs.lemmas.List.Sorted.{IsPermutation-keeps}
use Rattle.sharing_table.specs.declared.shape.KeyPlace.{KeyPlace}
use Rattle.sharing_table.specs.Sound.{IsBelow, AreAscending}
use Rattle.cobol_checker.specs.Sound.{rank, AreApart}

-- where what stands at k after the exchange of a and b stood before
abbrev Source : ℕ → ℕ → ℕ → ℕ → Type 0
Source a b k from = ((k ≡ a) × (from ≡ b)) ⊎ (((k ≡ b) × (from ≡ a)) ⊎ ((k ≢ a) × (k ≢ b) × (from ≡ k)))

same_source : (a b m n m' n' : ℕ) → Source a b m m' → Source a b n n' → m' ≡ n' → m ≡ n
same_source a b m n m' n' (inl p) (inl q) e = omega (arith, p.0, q.0)
same_source a b m n m' n' (inl p) (inr (inl q)) e = omega (arith, p.0, p.1, q.0, q.1, e)
same_source a b m n m' n' (inl p) (inr (inr q)) e = let back : n ≡ b = omega (arith, p.1, q.2, e) in absurd (q.1 back)
same_source a b m n m' n' (inr (inl p)) (inl q) e = omega (arith, p.0, p.1, q.0, q.1, e)
same_source a b m n m' n' (inr (inl p)) (inr (inl q)) e = omega (arith, p.0, q.0)
same_source a b m n m' n' (inr (inl p)) (inr (inr q)) e = let back : n ≡ a = omega (arith, p.1, q.2, e) in absurd (q.0 back)
same_source a b m n m' n' (inr (inr p)) (inl q) e = let back : m ≡ b = omega (arith, q.1, p.2, e) in absurd (p.1 back)
same_source a b m n m' n' (inr (inr p)) (inr (inl q)) e = let back : m ≡ a = omega (arith, q.1, p.2, e) in absurd (p.0 back)
same_source a b m n m' n' (inr (inr p)) (inr (inr q)) e = omega (arith, p.2, q.2, e)

record Moved (xs ys : List KeyPlace) (a b k : ℕ) (d : KeyPlace) : Type 0 where
  from : ℕ
  within : from < length xs
  source : Source a b k from
  same : get_or ys k d ≡ get_or xs from d

moved : (xs : List KeyPlace) (a b k : ℕ) (d : KeyPlace) → a < length xs → b < length xs → k < length xs → Moved xs (swap xs a b) a b k d
moved xs a b k d ha hb hk =
    let w = swapped_from_swap xs (swap xs a b) a b d ha hb refl in
    elim (eqb_tells k a) as (λ _. Moved xs (swap xs a b) a b k d) [
      | inl p ↦ record { from = b; within = hb; source = inl (p.1, refl); same = ap (λ n. get_or (swap xs a b) n d) p.1 ∙ w.0 }
      | inr p ↦ elim (eqb_tells k b) as (λ _. Moved xs (swap xs a b) a b k d) [
        | inl q ↦ record { from = a; within = ha; source = inr (inl (q.1, refl)); same = ap (λ n. get_or (swap xs a b) n d) q.1 ∙ w.1 }
        | inr q ↦ record { from = k; within = hk; source = inr (inr (p.1, q.1, refl)); same = w.2 k p.1 q.1 }
      ]
    ]

-- equal ranks stand at one place alone
abbrev AreDistinct : List KeyPlace → Type 0
AreDistinct xs = (m n : ℕ) (d : KeyPlace) → m < length xs → n < length xs → rank (get_or xs m d) ≡ rank (get_or xs n d) → m ≡ n

swapped_distinct : (xs : List KeyPlace) (a b : ℕ) → a < length xs → b < length xs → AreDistinct xs → AreDistinct (swap xs a b)
swapped_distinct xs a b ha hb h = λ m n d hm hn e.
    let one = moved xs a b m d ha hb (omega (arith, hm, length-swap xs a b)) in
    let two = moved xs a b n d ha hb (omega (arith, hn, length-swap xs a b)) in
    same_source a b m n one.from two.from one.source two.source
    (h one.from two.from d one.within two.within (sym (ap rank one.same) ∙ e ∙ ap rank two.same))

distinct : (places : List KeyPlace) → AreApart places → AreDistinct places
distinct places h m n d hm hn e =
    elim (eqb_tells m n) as (λ _. m ≡ n) [ inl same ↦ same.1 | inr apart ↦ absurd (h.apart m n d hm hn apart.1 e) ]

few_swapped : (xs : List KeyPlace) (a b : ℕ) → a < length xs → b < length xs → ((i : ℕ) (d : KeyPlace) → i < length xs → (get_or xs i d).length < 65536)
    → (i : ℕ) (d : KeyPlace) → i < length (swap xs a b) → (get_or (swap xs a b) i d).length < 65536
few_swapped xs a b ha hb h i d hi =
    let one = moved xs a b i d ha hb (omega (arith, hi, length-swap xs a b)) in
    let small = h one.from d one.within in
    let same : (get_or (swap xs a b) i d).length ≡ (get_or xs one.from d).length = ap (λ (place : KeyPlace). place.length) one.same in
    omega (arith, small, same)

below : (x y : KeyPlace) → x.length < 65536 → y.length < 65536 → rank x ≤ rank y → rank x ≢ rank y → IsBelow x y
below x y hx hy le ne =
    elim (cases_lt x.offset y.offset) as (λ _. IsBelow x y) [
      | inl less ↦ inl less
      | inr more ↦
          let same : x.offset ≡ y.offset = omega (arith, hx, hy, le, more) in
          elim (cases_lt x.length y.length) as (λ _. IsBelow x y) [
            | inl less ↦ inr (same, less)
            | inr back ↦ let equal : rank x ≡ rank y = omega (arith, le, same, back) in absurd (ne equal)
          ]
    ]

pub ascending_of : (places sorted : List KeyPlace) → AreApart places → IsPermutation places sorted → IsNonDecreasingBy rank sorted → AreAscending sorted
ascending_of places sorted h p up = λ i j d l m.
    let apart = IsPermutation-keeps places AreDistinct (distinct places h) (λ xs a b ha hb k. swapped_distinct xs a b ha hb k) sorted p in
    let small = IsPermutation-keeps places (λ (xs : List KeyPlace). (k : ℕ) (e : KeyPlace) → k < length xs → (get_or xs k e).length < 65536) h.few (λ xs a b ha hb k. few_swapped xs a b ha hb k) sorted p in
    let within : i < length sorted = omega (arith, l, m) in
    let order : i ≤ j = omega (arith, l) in
    below (get_or sorted i d) (get_or sorted j d) (small i d within) (small j d m) (up i j d order m) (λ e. let same = apart i j d within m e in omega (arith, same, l))

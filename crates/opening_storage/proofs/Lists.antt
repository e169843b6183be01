-- Fronts of lists, and lists again and again.
use Rattle.std.proofs.Common.{◌≡◌, ℕ, ◌+◌, ◌*◌, ◌<◌, ◌≤◌, suc, zero, refl, sym, ◌∙◌, ap, subst, arith, inl, inr, ◌⊎◌, List, [], ◌∷◌, ◌++◌, length, take, drop, length-append}
use Rattle.std.proofs.Math.Seq.{take-add, drop-append_seam}
use Rattle.std.proofs.lemmas.List.{drop-take, take_at}
use Rattle.std.proofs.lemmas.Bool.{cases_lt}
use Rattle.opening_storage.specs.Filling.{often}

pub length-often : (times : ℕ) (c : List ℕ) → length (often times c) ≡ times * length c
length-often zero c = omega arith
length-often (suc times) c =
    let one : length (often times c ++ c) ≡ length (often times c) + length c = length-append (often times c) c in
    let more : suc times * length c ≡ times * length c + length c = omega arith in
    one ∙ ap (λ n. n + length c) (length-often times c) ∙ sym more

take_front : (n m : ℕ) (xs : List ℕ) → take n (take (n + m) xs) ≡ take n xs
take_front zero m xs = refl
take_front (suc n) m [] = let e : suc n + m ≡ suc (n + m) = omega arith in rw e refl
take_front (suc n) m (x ∷ xs) = let e : suc n + m ≡ suc (n + m) = omega arith in rw e (ap (λ ys. x ∷ ys) (take_front n m xs))

-- what is added at an end
pub front_more : (b old c : List ℕ) → take (length old) b ≡ old → take (length c) (drop (length old) b) ≡ c → take (length (old ++ c)) b ≡ old ++ c
front_more b old c h k = ap (λ n. take n b) (length-append old c) ∙ take-add (length old) (length c) b ∙ ap (λ xs. xs ++ take (length c) (drop (length old) b)) h ∙ ap (λ xs. old ++ xs) k

pub front_less : (b old c : List ℕ) → take (length (old ++ c)) b ≡ old ++ c → take (length old) b ≡ old
front_less b old c h =
    sym (take_front (length old) (length c) b) ∙ ap (λ n. take (length old) (take n b)) (sym (length-append old c)) ∙ ap (take (length old)) h ∙ take_at old c (length old) refl

pub behind : (b old c : List ℕ) → take (length (old ++ c)) b ≡ old ++ c → take (length c) (drop (length old) b) ≡ c
behind b old c h =
    sym (drop-take (length old) (length c) b) ∙ ap (λ n. drop (length old) (take n b)) (sym (length-append old c)) ∙ ap (drop (length old)) h ∙ drop-append_seam old c

-- ---- again and again

at_end : (n : ℕ) (c b : List ℕ) → take (length c) (drop (n * length c) b) ≡ c → take (length c) (drop (length (often n c)) b) ≡ c
at_end n c b h = subst (λ m. take (length c) (drop m b) ≡ c) (sym (length-often n c)) h

pub often_front : (n : ℕ) (c b : List ℕ) → ((k : ℕ) → k < n → take (length c) (drop (k * length c) b) ≡ c) → take (length (often n c)) b ≡ often n c
often_front zero c b h = refl
often_front (suc n) c b h =
    front_more b (often n c) c (often_front n c b (λ k l. h k (omega arith))) (at_end n c b (h n (omega arith)))

last_or_before : (n k : ℕ) → k < suc n → (k < n) ⊎ (k ≡ n)
last_or_before n k h = elim (cases_of n k) as (λ _. (k < n) ⊎ (k ≡ n)) [ inl l ↦ inl l | inr l ↦ inr (omega arith) ]
  where
    cases_of : (n k : ℕ) → (k < n) ⊎ (n ≤ k)
    cases_of n k = cases_lt k n

pub often_behind : (n : ℕ) (c b : List ℕ) → take (length (often n c)) b ≡ often n c → (k : ℕ) → k < n → take (length c) (drop (k * length c) b) ≡ c
often_behind zero c b h k l = absurd (omega arith)
often_behind (suc n) c b h k l = elim (last_or_before n k l) as (λ _. take (length c) (drop (k * length c) b) ≡ c) [
  | inl before ↦ often_behind n c b (front_less b (often n c) c h) k before
  | inr last ↦ (let m : length (often n c) ≡ k * length c = length-often n c ∙ ap (λ j. j * length c) (sym last) in subst (λ j. take (length c) (drop j b) ≡ c) m (behind b (often n c) c h))
]

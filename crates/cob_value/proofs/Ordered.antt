-- Comparing two lists of one length: the first place where they differ decides.
use Rattle.std.proofs.Common.{◌≡◌, ◌≢◌, true, ℕ, zero, suc, ◌<◌, List, [], ◌∷◌, length, get_or, refl, sym, ap, ◌∙◌, arith}
use Rattle.std.specs.Prelude.{not, ◌==◌}
use Rattle.std.specs.Ordering.{nat_cmp, ordering_then, ordering_index}
use Rattle.std.specs.Cmp.{nat_cmp_is}
use Rattle.std.specs.declared.cmp.Ordering.{Ordering}
use Rattle.std.specs.declared.cmp.Ordering.TheVariants.{Less, Equal, Greater}
use Rattle.std.specs.Cmp.Lexicographic.{slice_cmp}

pub same_number : (x y : ℕ) → x ≡ y → nat_cmp x y ≡ Equal
same_number x y e = sym (nat_cmp_is x y Equal e)

-- an order of which the code has seen that it is not equality
pub differs : (o : Ordering) → not (ordering_index o == 1) ≡ true → o ≢ Equal
differs Less h e = cc
differs Equal h e = cc
differs Greater h e = cc

decided : (o rest : Ordering) → o ≢ Equal → ordering_then o rest ≡ o
decided Less rest h = refl
decided Equal rest h = absurd (h refl)
decided Greater rest h = refl

pub cmp_same : (xs ys : List ℕ) → length xs ≡ length ys → ((k : ℕ) → k < length xs → get_or xs k 0 ≡ get_or ys k 0) → slice_cmp nat_cmp xs ys ≡ Equal
cmp_same [] [] l h = refl
cmp_same [] (y ∷ ys) l h = absurd (omega arith)
cmp_same (x ∷ xs) [] l h = absurd (omega arith)
cmp_same (x ∷ xs) (y ∷ ys) l h =
    ap (λ o. ordering_then o (slice_cmp nat_cmp xs ys)) (same_number x y (h 0 (omega arith))) ∙ cmp_same xs ys (omega arith) (λ k g. h (suc k) (omega arith))

pub cmp_at : (xs ys : List ℕ) (i : ℕ) → i < length xs → length xs ≡ length ys → ((k : ℕ) → k < i → get_or xs k 0 ≡ get_or ys k 0) → nat_cmp (get_or xs i 0) (get_or ys i 0) ≢ Equal
    → nat_cmp (get_or xs i 0) (get_or ys i 0) ≡ slice_cmp nat_cmp xs ys
cmp_at [] ys i h l s d = absurd (omega arith)
cmp_at (x ∷ xs) [] i h l s d = absurd (omega arith)
cmp_at (x ∷ xs) (y ∷ ys) zero h l s d = sym (decided (nat_cmp x y) (slice_cmp nat_cmp xs ys) d)
cmp_at (x ∷ xs) (y ∷ ys) (suc i) h l s d =
    cmp_at xs ys i (omega arith) (omega arith) (λ k g. s (suc k) (omega arith)) d ∙ sym (ap (λ o. ordering_then o (slice_cmp nat_cmp xs ys)) (same_number x y (s 0 (omega arith))))

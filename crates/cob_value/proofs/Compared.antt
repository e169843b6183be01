-- Where the comparison of two texts is decided.
use Rattle.std.proofs.Common.{◌≡◌, ◌≢◌, ℕ, ◌<◌, ◌≤◌, List, length, get_or, replicate, max, sym, ap, ◌∙◌, arith}
use Rattle.std.specs.Ordering.{nat_cmp}
use Rattle.std.specs.declared.cmp.Ordering.{Ordering}
use Rattle.std.specs.declared.cmp.Ordering.TheVariants.{Equal}
use Rattle.std.specs.Cmp.Lexicographic.{slice_cmp}
use Rattle.std.proofs.lemmas.List.{get_or-replicate, length-replicate}
use Rattle.cob_value.specs.Texts.{fitted, compared_texts}
use Rattle.cob_value.proofs.Padding.{fitted_at, length-fitted}
use Rattle.cob_value.proofs.Ordered.{cmp_same, cmp_at}

same_places : (n i : ℕ) (x y : List ℕ) → i ≤ n → ((k : ℕ) → k < i → get_or x k 32 ≡ get_or y k 32) → (k : ℕ) → k < i → get_or (fitted n x) k 0 ≡ get_or (fitted n y) k 0
same_places n i x y l s k h = let within : k < n = omega arith in fitted_at n k x within ∙ s k h ∙ sym (fitted_at n k y within)

-- two texts that are the same in each place
pub texts_same : (x y : List ℕ) (i : ℕ) → max (length x) (length y) ≤ i → ((k : ℕ) → k < i → get_or x k 32 ≡ get_or y k 32) → Equal ≡ compared_texts x y
texts_same x y i l s =
    let n = max (length x) (length y) in
    sym (cmp_same (fitted n x) (fitted n y) (length-fitted n x ∙ sym (length-fitted n y)) (λ k h. same_places n n x y (omega arith) (λ j g. s j (omega arith)) k (omega (arith, length-fitted n x))))

-- two texts that differ in a place and are the same before it
pub texts_differ : (x y : List ℕ) (i : ℕ) (o : Ordering) → i < max (length x) (length y) → ((k : ℕ) → k < i → get_or x k 32 ≡ get_or y k 32) → o ≡ nat_cmp (get_or x i 32) (get_or y i 32) → o ≢ Equal
    → o ≡ compared_texts x y
texts_differ x y i o h s e d =
    let n = max (length x) (length y) in
    let here : o ≡ nat_cmp (get_or (fitted n x) i 0) (get_or (fitted n y) i 0) = e ∙ ap (λ a. nat_cmp a (get_or y i 32)) (sym (fitted_at n i x h)) ∙ ap (λ b. nat_cmp (get_or (fitted n x) i 0) b) (sym (fitted_at n i y h)) in
    here ∙ cmp_at (fitted n x) (fitted n y) i (omega (arith, length-fitted n x)) (length-fitted n x ∙ sym (length-fitted n y)) (same_places n i x y (omega arith) s) (λ q. d (here ∙ q))

-- a text of this byte alone
pub repeated_same : (bytes : List ℕ) (byte i : ℕ) → length bytes ≤ i → ((k : ℕ) → k < i → get_or bytes k 0 ≡ byte) → Equal ≡ slice_cmp nat_cmp bytes (replicate (length bytes) byte)
repeated_same bytes byte i l s =
    sym (cmp_same bytes (replicate (length bytes) byte) (sym (length-replicate (length bytes) byte)) (λ k h. s k (omega arith) ∙ sym (get_or-replicate (length bytes) k byte 0 h)))

-- a text with another byte behind only this one
pub repeated_differ : (bytes : List ℕ) (byte i : ℕ) (o : Ordering) → i < length bytes → ((k : ℕ) → k < i → get_or bytes k 0 ≡ byte) → o ≡ nat_cmp (get_or bytes i 0) byte → o ≢ Equal
    → o ≡ slice_cmp nat_cmp bytes (replicate (length bytes) byte)
repeated_differ bytes byte i o h s e d =
    let n = length bytes in
    let here : o ≡ nat_cmp (get_or bytes i 0) (get_or (replicate n byte) i 0) = e ∙ ap (λ b. nat_cmp (get_or bytes i 0) b) (sym (get_or-replicate n i byte 0 h)) in
    here ∙ cmp_at bytes (replicate n byte) i h (sym (length-replicate n byte)) (λ k g. s k g ∙ sym (get_or-replicate n k byte 0 (omega arith))) (λ q. d (here ∙ q))

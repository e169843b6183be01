-- The places of a text that is cut or filled with spaces.
use Rattle.std.proofs.Common.{◌≡◌, ℕ, ◌-◌, ◌<◌, inl, inr, List, ◌++◌, length, get_or, replicate, refl, sym, ◌∙◌, arith, length-append}
use Rattle.std.proofs.lemmas.Bool.{cases_lt}
use Rattle.std.proofs.lemmas.Grind.{get_or_default_zero}
use Rattle.std.proofs.lemmas.List.{get_or-take, get_or_append_left, get_or-append_right, get_or_past, get_or-replicate, length-replicate, length-take-le}
use Rattle.std.proofs.lemmas.List.FromFn.{fill_by_all}
use Rattle.cob_value.specs.Texts.{fitted}

pub length-fitted : (n : ℕ) (bytes : List ℕ) → length (fitted n bytes) ≡ n
length-fitted n bytes = length-take-le n (bytes ++ replicate n 32) (omega (arith, length-append bytes (replicate n 32), length-replicate {A = ℕ} n 32))

-- each place has the text's byte, or a space
pub fitted_at : (n k : ℕ) (bytes : List ℕ) → k < n → get_or (fitted n bytes) k 0 ≡ get_or bytes k 32
fitted_at n k bytes h = get_or-take n (bytes ++ replicate n 32) k 0 h ∙ elim (cases_lt k (length bytes)) [
  | inl less ↦ get_or_append_left bytes (replicate n 32) 0 k less ∙ sym (get_or_default_zero bytes k 32 less)
  | inr past ↦ get_or-append_right bytes (replicate n 32) (length bytes) k 0 refl past ∙ get_or-replicate n (k - length bytes) 32 0 (omega arith) ∙ sym (get_or_past bytes k 32 past)
]

-- what has the same places is the fitted text
pub is_fitted : (n : ℕ) (bytes out : List ℕ) → length out ≡ n → ((k : ℕ) → k < n → get_or out k 0 ≡ get_or bytes k 32) → out ≡ fitted n bytes
is_fitted n bytes out l h =
    let f : ℕ → ℕ = λ k. get_or bytes k 32 in
    fill_by_all f out n 0 l h ∙ sym (fill_by_all f (fitted n bytes) n 0 (length-fitted n bytes) (λ k g. fitted_at n k bytes g))

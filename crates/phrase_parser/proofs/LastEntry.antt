-- The last entry of some.
use Rattle.std.proofs.Common.{◌≡◌, ℕ, zero, suc, get_or, ◌+◌, [], ◌∷◌, length, refl, arith}
use Rattle.cob_base.specs.declared.tokens.SeenEntry.{SeenEntry}
use Rattle.cob_base.specs.EntryForm.{Entries, last_line}

pub last_at : (es : Entries) (n : ℕ) (x : SeenEntry) → length es ≡ n + 1 → (get_or es n x).line ≡ last_line es
last_at [] n x h = absurd (omega (arith, h))
last_at (e ∷ []) zero x h = refl
last_at (e ∷ []) (suc n) x h = absurd (omega (arith, h))
last_at (e ∷ f ∷ es) zero x h = absurd (omega (arith, h))
last_at (e ∷ f ∷ es) (suc n) x h = last_at (f ∷ es) n x (omega (arith, h))

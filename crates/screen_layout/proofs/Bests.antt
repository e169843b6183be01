-- The least of a list of faults, as one more comes.
use Rattle.std.proofs.Common.{◌≡◌, ℕ, ◌<◌, ◌≤◌, ◌⊎◌, inl, inr, List, [], ◌∷◌, ◌++◌, refl, sym, subst, arith}
use Rattle.std.specs.Prelude.{All}
use Rattle.std.proofs.lemmas.Bool.{cases_order, cases_lt}
use Rattle.std.proofs.lemmas.List.Elements.{All-push, All-weaker, Contains-append_left, Contains-push, All-nil}
use Rattle.screen_layout.specs.declared.fault.ScreenFault.{ScreenFault}
use Rattle.screen_layout.specs.ScreenFaults.{IsNoLater, IsLeast, line_of, order_of}

later_eq : (a b c d : ℕ) → ((a < b) ⊎ ((a ≡ b) × (c ≤ d)) → ⊥) → (b < a) ⊎ ((b ≡ a) × (d ≤ c))
later_eq a b c d not = elim (cases_order a b) as (λ _. (b < a) ⊎ ((b ≡ a) × (d ≤ c))) [
  | inl same ↦ elim (cases_lt d c) as (λ _. (b < a) ⊎ ((b ≡ a) × (d ≤ c))) [ inl less ↦ inr (sym same, omega arith) | inr most ↦ absurd (not (inr (same, most))) ]
  | inr far ↦ elim far as (λ _. (b < a) ⊎ ((b ≡ a) × (d ≤ c))) [ inl less ↦ absurd (not (inl less)) | inr more ↦ inl more ]
]

-- what is not before the other is after it
pub turned : (a b : ScreenFault) → (IsNoLater a b → ⊥) → IsNoLater b a
turned a b not = later_eq (line_of a) (line_of b) (order_of a) (order_of b) not

chain : (a b c p q r : ℕ) → (a < b) ⊎ ((a ≡ b) × (p ≤ q)) → (b < c) ⊎ ((b ≡ c) × (q ≤ r)) → (a < c) ⊎ ((a ≡ c) × (p ≤ r))
chain a b c p q r (inl x) (inl y) = inl (omega arith)
chain a b c p q r (inl x) (inr y) = inl (omega arith)
chain a b c p q r (inr x) (inl y) = inl (omega arith)
chain a b c p q r (inr x) (inr y) = inr (omega arith, omega arith)

pub IsNoLater-trans : (a b c : ScreenFault) → IsNoLater a b → IsNoLater b c → IsNoLater a c
IsNoLater-trans a b c h k = chain (line_of a) (line_of b) (line_of c) (order_of a) (order_of b) (order_of c) h k

pub IsNoLater-refl : (a : ScreenFault) → IsNoLater a a
IsNoLater-refl a = inr (refl, omega arith)

-- the least stays, where the new one is no earlier
pub stays : (all : List ScreenFault) (fault other : ScreenFault) → IsLeast all other → IsNoLater other fault → IsLeast (all ++ fault ∷ []) other
stays all fault other h k = record {
  among = Contains-append_left all (fault ∷ []) other h.among;
  first = All-push (IsNoLater other) all fault h.first k;
}

-- else the new one takes its place
pub replaces : (all : List ScreenFault) (fault other : ScreenFault) → IsLeast all other → (IsNoLater other fault → ⊥) → IsLeast (all ++ fault ∷ []) fault
replaces all fault other h not = record {
  among = Contains-push all fault;
  first = All-push (IsNoLater fault) all fault
      (All-weaker (IsNoLater other) (IsNoLater fault) (λ x k. IsNoLater-trans fault other x (turned other fault not) k) all h.first)
      (IsNoLater-refl fault);
}

-- the first fault is the least
pub begins : (all : List ScreenFault) (fault : ScreenFault) → all ≡ [] → IsLeast (all ++ fault ∷ []) fault
begins all fault e = record {
  among = Contains-push all fault;
  first = All-push (IsNoLater fault) all fault (subst (λ (l : List ScreenFault). All (IsNoLater fault) l) (sym e) (All-nil (IsNoLater fault))) (IsNoLater-refl fault);
}

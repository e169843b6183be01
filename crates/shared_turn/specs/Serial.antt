-- An object that makes its steps one after another, as clauses see it.
use Rattle.std.specs.Prelude.{ℕ}

-- the state that an object is in, the steps that it has taken, and what a caller's ask in a state gives: the state after it, and the reply
pub record Object (O A R St : Type 0) : Type 0 where
  pub state : O → St
  pub taken : O → ℕ
  pub after : St → ℕ → A → St
  pub reply : St → ℕ → A → R

abbrev pub object : {O A R St : Type 0} → (O → St) → (O → ℕ) → (St → ℕ → A → St) → (St → ℕ → A → R) → Object O A R St
object state taken after reply = record { state = state; taken = taken; after = after; reply = reply }

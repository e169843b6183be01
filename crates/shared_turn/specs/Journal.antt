-- A journal: the asks that were answered, in the order of their turns, each with its caller and its reply.
use Rattle.std.specs.Prelude.{◌≡◌, ◌==◌, ℕ, List, [], ◌∷◌, filter}
use Rattle.shared_turn.specs.declared.happened.HappenedOf.{HappenedOf}
use Rattle.shared_turn.specs.Serial.{Object}

-- the entry of one answered ask
abbrev pub entry : {A R : Type 0} → ℕ → A → R → HappenedOf A R
entry who ask reply = record { who = who; ask = ask; reply = reply }

-- one caller's entries, each once and in order
abbrev pub entries_of : {A R : Type 0} → ℕ → List (HappenedOf A R) → List (HappenedOf A R)
entries_of number journal = filter (λ e. e.who == number) journal

module _ {O A R St : Type 0} (obj : Object O A R St) where
  -- the reply of each entry is the one that the object's step gives at that point, from the state st
  abbrev pub Legal : St → List (HappenedOf A R) → Type 0
  Legal st [] = Unit {0}
  Legal st (e ∷ es) = (e.reply ≡ obj.reply st e.who e.ask) × Legal (obj.after st e.who e.ask) es

  -- the state after a journal, from the state st
  abbrev pub state_after : St → List (HappenedOf A R) → St
  state_after st [] = st
  state_after st (e ∷ es) = state_after (obj.after st e.who e.ask) es

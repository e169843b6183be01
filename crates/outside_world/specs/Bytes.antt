-- What a sink took in a call.
use Rattle.std.specs.Prelude.{◌≡◌, ◌⊎◌, ℕ, List, ◌++◌, Option}
use Rattle.std.specs.Io.KnownBytes.{Appends}
use Rattle.outside_world.specs.Causes.{Rose}

-- known bytes grew by the front of the text, and this rest of it is left
pub record AppendsUpTo (old new : Option (List ℕ)) (text rest : List ℕ) : Type 0 where
  pub done : List ℕ
  pub split : text ≡ done ++ rest
  pub appended : Appends old new done

-- known bytes grew by a prefix of the text
abbrev pub AppendsPrefix : Option (List ℕ) → Option (List ℕ) → List ℕ → Type 0
AppendsPrefix old new text = (rest : List ℕ) × AppendsUpTo old new text rest

-- known bytes grew by the whole text, or, only where the count of faults rose, by a prefix of it
abbrev pub Took : Option (List ℕ) → Option (List ℕ) → ℕ → ℕ → List ℕ → Type 0
Took old new before now text = Appends old new text ⊎ (Rose before now × AppendsPrefix old new text)

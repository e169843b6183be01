-- The marks at the front of a text that are among some.
use Rattle.std.specs.Prelude.{◌≡◌, ℕ, ◌<◌, true, false, List, ◌∷◌, ◌++◌, length, Some}
use Rattle.picture_rule.specs.Picture.{AllAmong, is_among}
use Rattle.picture_rule.specs.Text.{Writes}
use Rattle.picture_rule.specs.Reading.{front}
use Rattle.picture_rule.specs.declared.run.Symbol.TheVariants.{Mark}

-- A text writes the marks at its front and then what the rest writes, and nothing else.
pub record Reads (text marks rest : List ℕ) : Type 0 where
  pub forth : (all : List ℕ) → Writes text all → (more : List ℕ) × (all ≡ marks ++ more) × Writes rest more
  pub back : (more : List ℕ) → Writes rest more → Writes text (marks ++ more)

-- the text writes no wanted mark first
abbrev pub StopsAt : List ℕ → List ℕ → Type 0
StopsAt wanted text = (mark : ℕ) (more : List ℕ) → Writes text (mark ∷ more) → is_among wanted mark ≡ false

-- the longest front of wanted marks
pub record IsSpan (wanted text marks rest : List ℕ) : Type 0 where
  pub all : AllAmong wanted marks
  pub reads : Reads text marks rest
  pub stops : StopsAt wanted rest

-- a wanted mark, how often it counts, and what follows
pub record IsWanted (wanted text : List ℕ) (mark times : ℕ) (rest : List ℕ) : Type 0 where
  pub among : is_among wanted mark ≡ true
  pub is : front text ≡ Some (record { symbol = Mark mark; times = times; rest = rest })
  pub shorter : length rest < length text

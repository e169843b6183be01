-- Marks that spread along arrows.
use Rattle.std.specs.Prelude.{◌≡◌, ◌⊎◌, ◌↔◌, ℕ, ◌<◌, Bool, false, List, length, slice_index_or, IsTrue}
use Rattle.perform_cycles.specs.declared.arrows.Arrow.{Arrow}
use Rattle.perform_cycles.specs.Cycles.{IsStep, Leads}

abbrev pub IsMarked : List Bool → ℕ → Type 0
IsMarked marks paragraph = IsTrue (slice_index_or marks paragraph false)

-- a step leads to it from a marked paragraph
pub record IsLedTo (arrows : List Arrow) (marks : List Bool) (there : ℕ) : Type 0 where
  pub here : ℕ
  pub marked : IsMarked marks here
  pub step : IsStep arrows here there

-- the marks of some paragraphs and of those to which a step leads from them
pub record IsSpread (arrows : List Arrow) (old new : List Bool) : Type 0 where
  pub same : length new ≡ length old
  pub marks : (there : ℕ) → there < length old → IsMarked new there ↔ (IsMarked old there ⊎ IsLedTo arrows old there)

-- the marks of those to which a step leads from a paragraph
pub record AreFirst (count : ℕ) (arrows : List Arrow) (here : ℕ) (marks : List Bool) : Type 0 where
  pub same : length marks ≡ count
  pub set : (there : ℕ) → there < count → IsMarked marks there ↔ IsStep arrows here there

-- marks of paragraphs to which one leads, all those a step away among them
pub record AreReached (count : ℕ) (arrows : List Arrow) (here : ℕ) (marks : List Bool) : Type 0 where
  pub same : length marks ≡ count
  pub led : (there : ℕ) → IsMarked marks there → Leads arrows here there
  pub first : (there : ℕ) → there < count → IsStep arrows here there → IsMarked marks there

-- Which paragraphs lead back to themselves.
--
-- An arrow goes from a paragraph to each of a range of paragraphs, by their numbers: a PERFORM in the one runs the others.
use Rattle.std.specs.Prelude.{◌≡◌, ℕ, ◌<◌, ◌≤◌, Bool, false, List, length, slice_index_or, All, Contains, IsTrue, ◌↔◌}
use Rattle.perform_cycles.specs.declared.arrows.Arrow.{Arrow}

-- some arrow goes from the one to the other
pub record IsStep (arrows : List Arrow) (here there : ℕ) : Type 0 where
  pub arrow : Arrow
  pub among : Contains arrows arrow
  pub from_here : arrow.from ≡ here
  pub not_before : arrow.first ≤ there
  pub not_after : there ≤ arrow.last

-- a path of one step or of several
pub data Leads (arrows : List Arrow) : ℕ → ℕ → Type 0 where
  by_one : {here there : ℕ} → IsStep arrows here there → Leads arrows here there
  further : {here between there : ℕ} → IsStep arrows here between → Leads arrows between there → Leads arrows here there

-- a path leads from it back to it
abbrev pub IsOnCycle : List Arrow → ℕ → Type 0
IsOnCycle arrows paragraph = Leads arrows paragraph paragraph

-- arrows go between paragraphs of this count
abbrev pub AreWithin : ℕ → List Arrow → Type 0
AreWithin count arrows = All (λ arrow. (arrow.from < count) × (arrow.last < count)) arrows

-- a mark for each paragraph, set where it is on a cycle
pub record AreMarks (count : ℕ) (arrows : List Arrow) (marks : List Bool) : Type 0 where
  pub each : length marks ≡ count
  pub set : (paragraph : ℕ) → paragraph < count → IsTrue (slice_index_or marks paragraph false) ↔ IsOnCycle arrows paragraph

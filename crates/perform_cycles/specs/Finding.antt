-- The reasons that a search gives for its marks.
use Rattle.std.specs.Prelude.{◌≡◌, ◌⊎◌, ℕ, ◌<◌, ◌≤◌, true, if◌then◌else◌, ◌+◌, List, All, slice_get, Some}
use Rattle.perform_cycles.specs.declared.arrows.Arrow.{Arrow}
use Rattle.perform_cycles.specs.declared.finding.Place.{Place}
use Rattle.perform_cycles.specs.Cycles.{IsStep}

-- what was found of a paragraph
abbrev pub IsPlace : List Place → ℕ → Place → Type 0
IsPlace places paragraph place = slice_get places paragraph ≡ Some place

-- the paragraph was found to be on a cycle, in the group of this root
pub record IsOfGroup (places : List Place) (root paragraph : ℕ) (place : Place) : Type 0 where
  pub is : IsPlace places paragraph place
  pub cyclic : place.cyclic ≡ true
  pub rooted : place.root ≡ root

-- a step leads to it from one of its group that was seen before
pub record IsReached (arrows : List Arrow) (places : List Place) (paragraph : ℕ) (place : Place) : Type 0 where
  pub before : ℕ
  pub found : Place
  pub step : IsStep arrows before paragraph
  pub group : IsOfGroup places place.root before found
  pub earlier : found.seen < place.seen

-- a step leads from it to one of its group, which was taken before unless it is the root
pub record GoesOn (arrows : List Arrow) (places : List Place) (paragraph : ℕ) (place : Place) : Type 0 where
  pub next : ℕ
  pub found : Place
  pub step : IsStep arrows paragraph next
  pub group : IsOfGroup places place.root next found
  pub nearer : (paragraph ≡ place.root) ⊎ (found.taken < place.taken)

-- what shows that a paragraph is on a cycle: its root is of its group, a step leads on, and one leads to it unless it is the root
pub record IsCyclic (arrows : List Arrow) (places : List Place) (paragraph : ℕ) (place : Place) : Type 0 where
  pub root : Place
  pub root_is : IsOfGroup places place.root place.root root
  pub on : GoesOn arrows places paragraph place
  pub reached : (paragraph ≡ place.root) ⊎ IsReached arrows places paragraph place

-- where it says that the paragraph is on a cycle, that is shown
abbrev pub IsShown : List Arrow → List Place → ℕ → Type 0
IsShown arrows places paragraph = (place : Place) → IsPlace places paragraph place → place.cyclic ≡ true → IsCyclic arrows places paragraph place

-- the lowest group to which an arrow from here may lead: that of the paragraph, or one of a higher number where it is on no cycle
abbrev pub bound_of : Place → ℕ
bound_of place = if place.cyclic then place.group else place.group + 1

-- the paragraphs of the arrow's range are of groups of this number at least
abbrev pub IsAbove : List Place → Arrow → ℕ → Type 0
IsAbove places arrow low = (there : ℕ) (found : Place) → arrow.first ≤ there → there ≤ arrow.last → IsPlace places there found → low ≤ found.group

-- the arrow leads to no lower group
pub record IsAscending (places : List Place) (arrow : Arrow) : Type 0 where
  pub place : Place
  pub is : IsPlace places arrow.from place
  pub no_lower : IsAbove places arrow (bound_of place)

-- each mark is shown, and no arrow leads to a lower group
pub record IsRight (arrows : List Arrow) (places : List Place) : Type 0 where
  pub shown : (paragraph : ℕ) → IsShown arrows places paragraph
  pub ascending : All (IsAscending places) arrows

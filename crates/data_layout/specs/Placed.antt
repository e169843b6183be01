-- Items that were placed so far.
use Rattle.std.specs.Prelude.{◌≡◌, ℕ, ◌+◌, ◌≤◌, true, false, List, [], ◌∷◌, ◌++◌, sum_by, is_some, Some}
use Rattle.picture_rule.specs.Picture.{PictureValue}
use Rattle.std.specs.List.{list_all}
use Rattle.data_layout.specs.declared.row.Row.{Row}
use Rattle.data_layout.specs.declared.row.Spelled.TheVariants as s
use Rattle.data_layout.specs.declared.row.Described.{Described}
use Rattle.data_layout.specs.declared.placing.Placing.{Placing}
use Rattle.data_layout.specs.Storage.{goes_on, own_size, storage}
use Rattle.data_layout.specs.Faults.{is_bad_level, is_refused}
use Rattle.data_layout.specs.Walk.{IsAfter}

-- In a group with OCCURS that is still open the next place is the group's offset and what stands in it, each once.
pub record IsPlacing (before : List Row) (placing : Placing) : Type 0 where
  pub walk : IsAfter before placing.walk
  pub next : (ahead : List Row) (group : Row) (later : List Row) → before ≡ ahead ++ group ∷ later → list_all (goes_on group) later ≡ true
      → is_some group.occurs ≡ true → placing.next ≡ storage ahead + sum_by own_size (group ∷ later)

-- a row that fits has a picture of its size
abbrev pub IsMatched : Row → Described → Type 0
IsMatched row text = row.spelled ≡ s.Fits → (picture : PictureValue) × (text.picture ≡ Some picture) × (picture.size ≡ row.size)

-- a row without a fault in its level or picture, and few bytes in all
pub record CanBePlaced (before : List Row) (row : Row) (rest : List Row) (text : Described) : Type 0 where
  pub level : is_bad_level before row ≡ false
  pub picture : is_refused row.spelled ≡ false
  pub few : storage (before ++ row ∷ rest) ≤ 1000000
  pub matched : IsMatched row text

-- each row has its text
abbrev pub AreMatched : List Row → List Described → Type 0
AreMatched [] texts = texts ≡ []
AreMatched (row ∷ rows) [] = ⊥
AreMatched (row ∷ rows) (text ∷ texts) = IsMatched row text × AreMatched rows texts

-- rows are numbered in order from here on
abbrev pub NumberedFrom : ℕ → List Row → Type 0
NumberedFrom n [] = Unit {0}
NumberedFrom n (row ∷ rows) = (row.number ≡ n) × NumberedFrom (n + 1) rows

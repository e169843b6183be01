-- Sound shapes of records: keys lie in the record, and no two of them at one place.
use Rattle.std.specs.Prelude.{◌≡◌, ℕ, ◌+◌, ◌<◌, ◌≤◌, ◌⊎◌, false, List, length, count_by, All, AllPairs}
use Rattle.sharing_table.specs.declared.shape.KeyPlace.{KeyPlace}
use Rattle.sharing_table.specs.declared.shape.Shape.{Shape}

-- a key has 1 to 64 bytes, all of them in a record of so many
pub record IsKeyOf (bytes : ℕ) (key : KeyPlace) : Type 0 where
  pub some : 1 ≤ key.length
  pub few : key.length ≤ 64
  pub within : key.offset + key.length ≤ bytes

-- two keys lie at one place
abbrev pub IsSamePlace : KeyPlace → KeyPlace → Type 0
IsSamePlace key other = (key.offset ≡ other.offset) × (key.length ≡ other.length)

-- ascending by offset, then by length
abbrev pub IsBelow : KeyPlace → KeyPlace → Type 0
IsBelow key other = (key.offset < other.offset) ⊎ ((key.offset ≡ other.offset) × (key.length < other.length))

abbrev pub AreAscending : List KeyPlace → Type 0
AreAscending keys = AllPairs IsBelow keys

-- A record has at most 512 bytes. The prime key allows no duplicates; of the alternates there are at most three, one of them with
-- duplicates at most. All keys lie in the record, no alternate at the place of the prime key, and the alternates ascend, so that no two
-- of them lie at one place.
pub record IsSoundShape (shape : Shape) : Type 0 where
  pub record_few : shape.length ≤ 512
  pub prime : IsKeyOf shape.length shape.prime
  pub prime_is_unique : shape.prime.duplicates ≡ false
  pub alternates : All (IsKeyOf shape.length) shape.alternates
  pub count : length shape.alternates ≤ 3
  pub with_duplicates : count_by (λ key. key.duplicates) shape.alternates ≤ 1
  pub apart : All (λ key. ¬ (IsSamePlace shape.prime key)) shape.alternates
  pub ascending : AreAscending shape.alternates

-- What the shape of a file without faults rests on: its record is there, its keys lie in it, and they lie apart.
use Rattle.std.specs.Prelude.{◌≡◌, ℕ, ◌+◌, ◌*◌, ◌<◌, ◌≤◌, ◌≢◌, Bool, List, [], ◌∷◌, length, Some, slice_get, slice_index_or}
use Rattle.cob_base.specs.declared.divisions.Front.{Front}
use Rattle.cob_base.specs.declared.file_entries.FileEntry.{FileEntry}
use Rattle.cob_base.specs.declared.file_entries.FileClause.{FileClause}
use Rattle.cob_base.specs.declared.operands.Reference.{Reference}
use Rattle.data_layout.specs.Storage.{storage}
use Rattle.sharing_table.specs.declared.shape.KeyPlace.{KeyPlace}
use Rattle.data_names.specs.Items.{DataItem}
use Rattle.data_names.specs.Spots.{Spot, spots, rows_before, bytes_of}
use Rattle.data_names.specs.References.{found}
use Rattle.entry_clauses.specs.Clauses.{Alternate, record_key, alternates}
use Rattle.key_rules.specs.KeyPlaces.{description_of}
use Rattle.cobol_checker.specs.Shapes.{record_of, AreKeyPlaces}

-- an item of 64 bytes at most lies in a record of 512 bytes at most, before which so many bytes stand
pub record IsPlaceIn (begins : ℕ) (spot : Spot DataItem) : Type 0 where
  pub low : begins ≤ storage (rows_before spot)
  pub high : storage (rows_before spot) ≤ begins + 512
  pub small : storage (rows_before spot) ≤ 1000000
  pub few : bytes_of spot ≤ 64

-- the place of an item in a record
pub record IsPlaceOf (begins : ℕ) (spot : Spot DataItem) (duplicates : Bool) (place : KeyPlace) : Type 0 where
  pub offset : begins + place.offset ≡ storage (rows_before spot)
  pub length_is : place.length ≡ bytes_of spot
  pub duplicates_is : place.duplicates ≡ duplicates

-- the item of this number lies in the record
abbrev pub IsPlaceAt : List DataItem → ℕ → ℕ → Type 0
IsPlaceAt items begins at_number = (spot : Spot DataItem) × (slice_get (spots items) at_number ≡ Some spot) × IsPlaceIn begins spot

-- a key stands for one item of the record
pub record IsKeyIn (items : List DataItem) (begins : ℕ) (key : Reference) : Type 0 where
  pub spot : Spot DataItem
  pub found_is : found items key ≡ Some spot
  pub inside : IsPlaceIn begins spot

abbrev pub AreKeysIn : List DataItem → ℕ → List Alternate → Type 0
AreKeysIn items begins [] = Unit {0}
AreKeysIn items begins (alternate ∷ others) = IsKeyIn items begins alternate.key × AreKeysIn items begins others

-- there is a prime key, in the record
abbrev pub IsPrimeIn : List DataItem → ℕ → List FileClause → Type 0
IsPrimeIn items begins clauses = (key : Reference) × (record_key clauses ≡ Some key) × IsKeyIn items begins key

-- grows with the offset, then with the length
abbrev pub rank : KeyPlace → ℕ
rank place = place.offset * 65536 + place.length

-- no two are one place
pub record AreApart (places : List KeyPlace) : Type 0 where
  pub apart : (i j : ℕ) (d : KeyPlace) → i < length places → j < length places → i ≢ j → rank (slice_index_or places i d) ≢ rank (slice_index_or places j d)
  pub few : (i : ℕ) (d : KeyPlace) → i < length places → (slice_index_or places i d).length < 65536

-- the item of this number is the record of a file
abbrev pub IsRecordAt : Front → List DataItem → FileEntry → ℕ → Type 0
IsRecordAt front items file at =
    (spot : Spot DataItem) × (at < length items) × (slice_get (spots items) at ≡ Some spot) × (record_of front items file ≡ Some spot)

pub record IsSoundFile (front : Front) (items : List DataItem) (file : FileEntry) : Type 0 where
  pub number : ℕ
  pub described : description_of front file.name ≡ Some number
  pub spot : Spot DataItem
  pub record_is : record_of front items file ≡ Some spot
  pub record_few : bytes_of spot ≤ 512
  pub begins_few : storage (rows_before spot) ≤ 1000000
  pub prime : IsPrimeIn items (storage (rows_before spot)) file.clauses
  pub others : AreKeysIn items (storage (rows_before spot)) (alternates file.clauses)
  pub apart : (places : List KeyPlace) → AreKeyPlaces items (storage (rows_before spot)) (alternates file.clauses) places → AreApart places

abbrev pub AreSoundFiles : Front → List DataItem → List FileEntry → Type 0
AreSoundFiles front items [] = Unit {0}
AreSoundFiles front items (file ∷ others) = IsSoundFile front items file × AreSoundFiles front items others

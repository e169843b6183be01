-- The shape of a file's records, as its file control entry and its record say it.
use Rattle.std.specs.Prelude.{◌≡◌, ℕ, ◌+◌, Bool, false, ◌&&◌, List, [], ◌∷◌, Option, Some, IsPermutation, find}
use Rattle.cob_base.specs.declared.divisions.Front.{Front}
use Rattle.cob_base.specs.declared.file_entries.FileEntry.{FileEntry}
use Rattle.cob_base.specs.declared.operands.Reference.{Reference}
use Rattle.data_layout.specs.Storage.{storage}
use Rattle.sharing_table.specs.declared.shape.Shape.{Shape}
use Rattle.sharing_table.specs.declared.shape.KeyPlace.{KeyPlace}
use Rattle.sharing_table.specs.Sound.{AreAscending}
use Rattle.data_names.specs.Parts.{files}
use Rattle.entry_clauses.specs.Clauses.{Alternate, record_key, alternates}
use Rattle.data_names.specs.Items.{DataItem}
use Rattle.data_names.specs.Spots.{Spot, spots, rows_before, bytes_of, is_record}
use Rattle.data_names.specs.References.{found}
use Rattle.key_rules.specs.KeyPlaces.{description_of, same_number}

-- the record of a file
abbrev pub record_of : Front → List DataItem → FileEntry → Option (Spot DataItem)
record_of front items file =
    find (λ spot. same_number (description_of front file.name) spot.item.source.file && is_record spot.item) (spots items)

-- the place of a key in the record that begins here
pub record IsKeyPlace (items : List DataItem) (begins : ℕ) (key : Reference) (duplicates : Bool) (place : KeyPlace) : Type 0 where
  pub spot : Spot DataItem
  pub found_is : found items key ≡ Some spot
  pub offset : begins + place.offset ≡ storage (rows_before spot)
  pub length_is : place.length ≡ bytes_of spot
  pub duplicates_is : place.duplicates ≡ duplicates

abbrev pub AreKeyPlaces : List DataItem → ℕ → List Alternate → List KeyPlace → Type 0
AreKeyPlaces items begins [] places = places ≡ []
AreKeyPlaces items begins (alternate ∷ others) [] = ⊥
AreKeyPlaces items begins (alternate ∷ others) (place ∷ places) =
    IsKeyPlace items begins alternate.key alternate.duplicates place × AreKeyPlaces items begins others places

-- The length of the file's record, the place of its prime key, which allows no duplicates, and those of its alternates, in order.
pub record IsShape (front : Front) (items : List DataItem) (file : FileEntry) (shape : Shape) : Type 0 where
  pub spot : Spot DataItem
  pub key : Reference
  pub places : List KeyPlace
  pub record_is : record_of front items file ≡ Some spot
  pub length_is : shape.length ≡ bytes_of spot
  pub key_is : record_key file.clauses ≡ Some key
  pub prime : IsKeyPlace items (storage (rows_before spot)) key false shape.prime
  pub places_are : AreKeyPlaces items (storage (rows_before spot)) (alternates file.clauses) places
  pub same : IsPermutation places shape.alternates
  pub ascending : AreAscending shape.alternates

abbrev pub AreShapesOf : Front → List DataItem → List FileEntry → List Shape → Type 0
AreShapesOf front items [] shapes = shapes ≡ []
AreShapesOf front items (file ∷ others) [] = ⊥
AreShapesOf front items (file ∷ others) (shape ∷ shapes) = IsShape front items file shape × AreShapesOf front items others shapes

-- one shape for each file control entry, in order
abbrev pub AreShapes : Front → List DataItem → List Shape → Type 0
AreShapes front items shapes = AreShapesOf front items (files front) shapes

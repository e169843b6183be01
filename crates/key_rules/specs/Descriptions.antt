-- What the code knows of the descriptions of files, and which one a file has.
use Rattle.std.specs.Prelude.{◌≡◌, ℕ, Bool, ◌&&◌, List, length, position, Option, Some, None, slice_get}
use Rattle.std.specs.Global.{Vec}
use Rattle.std.specs.Ordering.{nat_cmp}
use Rattle.std.specs.Cmp.Lexicographic.{slice_cmp}
use Rattle.std.specs.Str.{bytes_eq}
use Rattle.std.specs.BTreeMap.{BTreeMap, get_by}
use Rattle.cob_base.specs.declared.divisions.Front.{Front}
use Rattle.cob_base.specs.declared.divisions.FileDescription.{FileDescription}
use Rattle.data_names.specs.Names.{in_small}
use Rattle.data_names.specs.Parts.{descriptions}
use Rattle.data_names.specs.Items.{DataItem}
use Rattle.data_names.specs.Spots.{is_record}
use Rattle.key_rules.specs.KeyPlaces.{description_of, same_number, is_unsized_under}
use Rattle.key_rules.specs.declared.descriptions.Description.{Description}
use Rattle.key_rules.specs.declared.descriptions.Descriptions.{Descriptions}

-- the item is the record under the description of this number
abbrev pub is_record_under : Option ℕ → DataItem → Bool
is_record_under description item = same_number description item.source.file && is_record item

-- what is known of the description of this number: its record among the items, and the first item under it whose size is not known
pub record IsDescription (items : List DataItem) (at_number : ℕ) (known : Description) : Type 0 where
  pub number : known.number ≡ at_number
  pub record_is : known.record ≡ position (is_record_under (Some at_number)) items
  pub unsized_is : known.unsized_at ≡ position (is_unsized_under (Some at_number)) items

-- each by its number
abbrev pub AreKnown : List DataItem → List Description → Type 0
AreKnown items known = (number : ℕ) (one : Description) → slice_get known number ≡ Some one → IsDescription items number one

-- the number under a name in small letters
abbrev pub number_under : BTreeMap (Vec ℕ) ℕ → List ℕ → Option ℕ
number_under names key = get_by (λ other. slice_cmp nat_cmp key other.items) names

-- each name has the number of the first description that is so called
abbrev pub AreNumbers : List FileDescription → BTreeMap (Vec ℕ) ℕ → Type 0
AreNumbers files names = (key : List ℕ) → number_under names key ≡ position (λ file. bytes_eq key (in_small file.name)) files

-- these are the descriptions of a program with these items
pub record AreDescriptions (front : Front) (items : List DataItem) (known : Descriptions) : Type 0 where
  pub count : length known.all.items ≡ length (descriptions front)
  pub each : AreKnown items known.all.items
  pub names : AreNumbers (descriptions front) known.names

-- what is known of the description of a file with this name; None where it has none
abbrev pub IsDescriptionOf : Front → List DataItem → List ℕ → Option Description → Type 0
IsDescriptionOf front items name None = description_of front name ≡ None
IsDescriptionOf front items name (Some known) = (description_of front name ≡ Some known.number) × IsDescription items known.number known

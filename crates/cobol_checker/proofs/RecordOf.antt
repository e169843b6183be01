-- The record of a file, by its number and among the others.
use Rattle.std.proofs.Common.{◌≡◌, ◌∙◌, refl, sym, ap, subst, arith, ℕ, suc, ◌+◌, Bool, true, false, List, [], ◌∷◌, ◌++◌, Some, None}
use Rattle.std.specs.Prelude.{if◌then◌else◌, find, position, slice_get}
use Rattle.std.specs.List.{position_from}
use Rattle.std.proofs.lemmas.Iterator.Adapters.{position_from-zero}
use Rattle.std.proofs.lemmas.Option.{slice_get_within}
use Rattle.cob_base.specs.declared.divisions.Front.{Front}
use Rattle.cob_base.specs.declared.file_entries.FileEntry.{FileEntry}
use Rattle.data_names.specs.Items.{DataItem}
use Rattle.data_names.specs.Spots.{Spot, spots, spots_after, spot_of}
use Rattle.data_names.proofs.Surveys.{length-spots}
use Rattle.key_rules.specs.declared.descriptions.Description.{Description}
use Rattle.key_rules.specs.KeyPlaces.{description_of}
use Rattle.key_rules.specs.Descriptions.{IsDescriptionOf, is_record_under}
use Rattle.cobol_checker.specs.Sound.{IsSoundFile, IsRecordAt}
use Rattle.cobol_checker.specs.Shapes.{record_of}

-- a spot that was found, by its number
pub record FoundAt (test : DataItem → Bool) (n : ℕ) (items : List DataItem) (all : List (Spot DataItem)) (spot : Spot DataItem) : Type 0 where
  pub k : ℕ
  pub first : position_from test n items ≡ Some (n + k)
  pub at : slice_get all k ≡ Some spot

found_step : (test : DataItem → Bool) (n : ℕ) (x : DataItem) (before items : List DataItem) (b : Bool) (spot : Spot DataItem) → test x ≡ b
    → (if b then Some (spot_of before x items) else find (λ (s : Spot DataItem). test s.item) (spots_after (before ++ x ∷ []) items)) ≡ Some spot
    → (find (λ (s : Spot DataItem). test s.item) (spots_after (before ++ x ∷ []) items) ≡ Some spot → FoundAt test (n + 1) items (spots_after (before ++ x ∷ []) items) spot)
    → FoundAt test n (x ∷ items) (spots_after before (x ∷ items)) spot
found_step test n x before items true spot t e later = record { k = 0; first = rw t (ap Some (omega arith)); at = e }
found_step test n x before items false spot t e later =
    let l = later e in record { k = suc l.k; first = rw t (l.first ∙ ap Some (omega arith)); at = l.at }

pub found_at : (test : DataItem → Bool) (n : ℕ) (before items : List DataItem) (spot : Spot DataItem) → find (λ (s : Spot DataItem). test s.item) (spots_after before items) ≡ Some spot
    → FoundAt test n items (spots_after before items) spot
found_at test n before [] spot e = cc
found_at test n before (x ∷ items) spot e = found_step test n x before items (test x) spot refl e (λ later. found_at test (n + 1) (before ++ x ∷ []) items spot later)

found_under : (front : Front) (items : List DataItem) (file : FileEntry) (number : ℕ) (spot : Spot DataItem) → description_of front file.name ≡ Some number → record_of front items file ≡ Some spot
    → FoundAt (is_record_under (Some number)) 0 items (spots items) spot
found_under front items file number spot d e =
    found_at (is_record_under (Some number)) 0 [] items spot (ap (λ description. find (λ (s : Spot DataItem). is_record_under description s.item) (spots items)) (sym d) ∙ e)

pub no_description : (front : Front) (items : List DataItem) (file : FileEntry) → IsSoundFile front items file → IsDescriptionOf front items file.name None → ⊥
no_description front items file h none = cc (h.described, none)

number_is : (front : Front) (items : List DataItem) (file : FileEntry) (known : Description) → IsSoundFile front items file → IsDescriptionOf front items file.name (Some known)
    → (known.record ≡ position (is_record_under (description_of front file.name)) items)
number_is front items file known h is =
    is.1.record_is ∙ ap (λ description. position (is_record_under description) items) (sym is.0)

first_is : (front : Front) (items : List DataItem) (file : FileEntry) (known : Description) (h : IsSoundFile front items file) → IsDescriptionOf front items file.name (Some known)
    → (f : FoundAt (is_record_under (Some h.number)) 0 items (spots items) h.spot) → known.record ≡ Some f.k
first_is front items file known h is f =
    number_is front items file known h is ∙ ap (λ description. position (is_record_under description) items) h.described
    ∙ position_from-zero (is_record_under (Some h.number)) items ∙ f.first ∙ ap Some (omega arith)

pub no_record : (front : Front) (items : List DataItem) (file : FileEntry) (known : Description) → IsSoundFile front items file → IsDescriptionOf front items file.name (Some known) → known.record ≡ None → ⊥
no_record front items file known h is none =
    let first = first_is front items file known h is (found_under front items file h.number h.spot h.described h.record_is) in cc (first, none)

pub record_here : (front : Front) (items : List DataItem) (file : FileEntry) (known : Description) (at : ℕ) → IsSoundFile front items file → IsDescriptionOf front items file.name (Some known)
    → known.record ≡ Some at → IsRecordAt front items file at
record_here front items file known at h is e =
    let f = found_under front items file h.number h.spot h.described h.record_is in
    let same : f.k ≡ at = cc (first_is front items file known h is f, e) in
    let here : slice_get (spots items) at ≡ Some h.spot = subst (λ (k : ℕ). slice_get (spots items) k ≡ Some h.spot) same f.at in
    (h.spot, omega (arith, slice_get_within (spots items) at h.spot here, length-spots items), here, h.record_is)

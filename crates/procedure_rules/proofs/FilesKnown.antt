-- The files that are known, one more at a time, and the one of a number.
use Rattle.std.proofs.Common.{◌≡◌, ◌∙◌, inl, inr, sym, ap, subst, refl, ℕ, ◌+◌, ◌<◌, List, [], ◌∷◌, ◌++◌, length, take, get_or, Option, Some, None}
use Rattle.std.specs.Prelude.{slice_get}
use Rattle.std.specs.List.{All}
use Rattle.std.specs.Option.{IfSome}
use Rattle.std.proofs.lemmas.List.{take_more, map-append}
use Rattle.std.proofs.lemmas.List.Elements.{All-push}
use Rattle.std.proofs.lemmas.Option.{slice_get-map, slice_get_cases}
use Rattle.cob_base.specs.declared.file_entries.FileEntry.{FileEntry}
use Rattle.data_names.specs.Items.{DataItem}
use Rattle.procedure_names.specs.Firsts.{at_number}
use Rattle.procedure_rules.specs.KnownFiles.{IsKnownFile, AreKnownFiles, seen_file}
use Rattle.procedure_rules.specs.declared.known_files.KnownFile.{KnownFile}

pub files_more : (items : List DataItem) (entries : List FileEntry) (n : ℕ) (entry : FileEntry) (known : List KnownFile) (file : KnownFile) → n < length entries → entry ≡ get_or entries n entry
    → AreKnownFiles items (take n entries) known → file.entry.now ≡ entry → IsKnownFile items file → AreKnownFiles items (take (n + 1) entries) (known ++ file ∷ [])
files_more items entries n entry known file h e so_far is one = record {
  listed =
      map-append (λ (f : KnownFile). f.entry.now) known (file ∷ []) ∙ ap (λ (xs : List FileEntry). xs ++ file.entry.now ∷ []) so_far.listed
      ∙ ap (λ (x : FileEntry). take n entries ++ x ∷ []) (is ∙ e) ∙ sym (take_more entries n entry h);
  each = All-push (IsKnownFile items) known file so_far.each one;
}

file_of : (items : List DataItem) (entries : List FileEntry) (known : List KnownFile) (n : ℕ) → AreKnownFiles items entries known → seen_file (slice_get known n) ≡ slice_get entries n
file_of items entries known n h = sym (slice_get-map (λ (f : KnownFile). f.entry.now) known n) ∙ ap (λ (xs : List FileEntry). slice_get xs n) h.listed

all_at : {A : Type 0} (P : A → Type 0) (xs : List A) (n : ℕ) → All P xs → IfSome (slice_get xs n) P
all_at P xs n h =
    elim (slice_get_cases xs n).1 [
      | inl w ↦ subst (λ o. IfSome o P) (sym w.2) (subst P w.3 (h n w.0 w.1))
      | inr w ↦ subst (λ o. IfSome o P) (sym w.1) tt
    ]

pub file_at_number : (items : List DataItem) (entries : List FileEntry) (known : List KnownFile) (number : Option ℕ) → AreKnownFiles items entries known → seen_file (at_number known number) ≡ at_number entries number
file_at_number items entries known None h = refl
file_at_number items entries known (Some n) h = file_of items entries known n h

pub all_at_number : {A : Type 0} (P : A → Type 0) (xs : List A) (number : Option ℕ) → All P xs → IfSome (at_number xs number) P
all_at_number P xs None h = tt
all_at_number P xs (Some n) h = all_at P xs n h

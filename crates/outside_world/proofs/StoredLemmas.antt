-- Looking up a name after a write.
use Rattle.std.proofs.Common.{◌≡◌, inl, inr, ℕ, suc, ◌+◌, ◌<◌, List, [], ◌∷◌, length, refl, sym, ◌∙◌, ap, Bool, true, false, arith, take, drop, take-append-drop}
use Rattle.std.specs.Prelude.{Some, None, if◌then◌else◌, slice_set, slice_index_or, nat_lt}
use Rattle.std.specs.List.{position, position_or_len}
use Rattle.std.specs.Bool.{OnTrue, OnFalse}
use borrow.Author.Tests.{ltb-true}
use Rattle.std.proofs.lemmas.List.Sums.{passes_at_first}
use Rattle.std.specs.Str.{bytes_eq}
use Rattle.std.proofs.lemmas.Bool.{cases_Bool}
use Rattle.std.proofs.lemmas.Slice.Eq.{bytes_eq-Decides}
use Rattle.outside_world.specs.declared.shelf.Held.{Held}
use Rattle.outside_world.specs.Stored.{lookup, has_name, Stores, StoresPart}

same_test : {A : Type 0} (b : Bool) (x y z : A) → (if b then x else z) ≡ (if b then x else (if b then y else z))
same_test true x y z = refl
same_test false x y z = refl

two_tests : {A : Type 0} (a b : Bool) (x y z : A) → (a ≡ true → b ≡ true → ⊥) → (if a then x else (if b then y else z)) ≡ (if b then y else (if a then x else z))
two_tests true true x y z never = absurd (never refl refl)
two_tests true false x y z never = refl
two_tests false true x y z never = refl
two_tests false false x y z never = refl

pub lookup-set : (name : List ℕ) (files : List Held) (new : Held) → new.name ≡ name → position_or_len (has_name name) files < length files → (other : List ℕ)
    → lookup other (slice_set files (position_or_len (has_name name) files) new) ≡ (if bytes_eq name other then new.bytes else lookup other files)
lookup-set name [] new named within other = absurd (omega arith)
lookup-set name (held ∷ rest) new named within other = elim (cases_Bool (bytes_eq held.name name)) [
  | inl same ↦
      let here : position_or_len (has_name name) (held ∷ rest) ≡ 0 = rw same in
      let held_named : held.name ≡ name = (bytes_eq-Decides held.name name).0 same in
      rw (here, named, held_named) (same_test (bytes_eq name other) new.bytes held.bytes (lookup other rest))
  | inr differs ↦
      let place = position_or_len (has_name name) rest in
      let later : position_or_len (has_name name) (held ∷ rest) ≡ 1 + place = rw differs in
      let one_more : position_or_len (has_name name) (held ∷ rest) ≡ suc place = omega (arith, later) in
      let within_rest : place < length rest = omega (arith, within, one_more) in
      let in_rest = lookup-set name rest new named within_rest other in
      let never : bytes_eq held.name other ≡ true → bytes_eq name other ≡ true → ⊥ =
      λ first second.
      let equal : held.name ≡ name = (bytes_eq-Decides held.name other).0 first ∙ sym ((bytes_eq-Decides name other).0 second) in
      let found : bytes_eq held.name name ≡ true = (bytes_eq-Decides held.name name).1 equal in
      cc (found, differs) in
      rw (one_more, in_rest) (two_tests (bytes_eq held.name other) (bytes_eq name other) held.bytes new.bytes (lookup other rest) never)
]

-- a write at the place that was found
pub stored-at : (name : List ℕ) (files : List Held) (place : ℕ) (old : Held) (bytes : List ℕ) → position (has_name name) files ≡ Some place → old ≡ slice_index_or files place old
    → (other : List ℕ) → lookup other (slice_set files place (record { name = old.name; bytes = Some bytes })) ≡ (if bytes_eq name other then Some bytes else lookup other files)
stored-at name files place old bytes found read other = elim (cases_Bool (nat_lt first (length files))) [
  | inl inside ↦
      let is_first : Some place ≡ Some first = sym found ∙ rw inside in
      let same : place ≡ first = cc is_first in
      let within : first < length files = omega (arith, ltb-true first (length files) inside) in
      let passes = passes_at_first (has_name name) files old within in
      let old_is : old ≡ slice_index_or files first old = read ∙ ap (λ (k : ℕ). slice_index_or files k old) same in
      let named : old.name ≡ name = (bytes_eq-Decides old.name name).0 (ap (has_name name) old_is ∙ passes) in
      rw same (lookup-set name files (record { name = old.name; bytes = Some bytes }) named within other)
  | inr outside ↦
      let none : Some place ≡ None = sym found ∙ rw outside in
      absurd (cc none)
]
  where
    first : ℕ
    first = position_or_len (has_name name) files

-- a write of the front of the bytes, whether it was done or not
pub stores_part : (name bytes : List ℕ) (count : ℕ) (old new : List Held) (done : Bool) → OnTrue done (Stores name (Some (take count bytes)) (Some old) (Some new)) → OnFalse done (new ≡ old)
    → StoresPart name bytes (Some old) (Some new)
stores_part name bytes count old new true stored same = inr (take count bytes, drop count bytes, sym (take-append-drop count bytes), stored)
stores_part name bytes count old new false stored same = inl (λ other. ap (lookup other) same)

-- a write at the place that was found, where it was done
pub stored-where : (done : Bool) (name : List ℕ) (files : List Held) (place : ℕ) (old new : Held) (bytes : List ℕ) → position (has_name name) files ≡ Some place → old ≡ slice_index_or files place old
    → OnTrue done (new ≡ record { name = old.name; bytes = Some bytes })
    → OnTrue done ((other : List ℕ) → lookup other (slice_set files place new) ≡ (if bytes_eq name other then Some bytes else lookup other files))
stored-where true name files place old new bytes found read written = λ other. rw written (stored-at name files place old bytes found read other)
stored-where false name files place old new bytes found read written = tt

-- The first of those that pass, and what is known of descriptions with one more item.
use Rattle.std.proofs.Common.{◌≡◌, ◌∙◌, refl, sym, ap, subst, arith, ℕ, zero, suc, ◌+◌, ◌<◌, ◌≤◌, ◌⊎◌, inl, inr, ◌==◌, not, Bool, true, false, List, [], ◌∷◌, ◌++◌, length, take, get_or, Option, Some, None}
use Rattle.std.specs.Prelude.{if◌then◌else◌, nat_lt, position, slice_get, slice_set}
use Rattle.std.specs.List.{position_from, position_or_len}
use Rattle.std.proofs.lemmas.List.{take_more, length-take-le}
use Rattle.std.proofs.lemmas.Bool.{eq-eqb}
use Rattle.std.proofs.lemmas.Option.{slice_get_within}
use Rattle.std.proofs.Math.Dec.{eqb-suc-suc, eqb-suc-zero, eqb-zero-suc}
use Rattle.std.proofs.lemmas.Bool.Decides.{nat_tests}
use Rattle.std.specs.Str.{bytes_eq}
use Rattle.cob_base.specs.declared.divisions.Front.{Front}
use Rattle.cob_base.specs.declared.divisions.FileDescription.{FileDescription}
use Rattle.data_names.specs.Names.{in_small}
use Rattle.data_names.specs.Parts.{descriptions}
use Rattle.data_names.specs.References.{same_name}
use Rattle.std.proofs.lemmas.Iterator.Adapters.{position_from-zero}
use Rattle.data_layout.specs.Faults.{has_size}
use Rattle.data_names.specs.Clauses.{or_next}
use Rattle.data_names.specs.Items.{DataItem}
use Rattle.data_names.specs.Spots.{is_record}
use Rattle.key_rules.specs.declared.descriptions.Description.{Description}
use Rattle.key_rules.specs.KeyPlaces.{same_number, is_unsized_under, description_of}
use Rattle.key_rules.specs.Descriptions.{IsDescription, IsDescriptionOf, AreKnown, is_record_under}

number_or_none : (b : Bool) (n m : ℕ) → n ≡ m → (if b then Some n else None) ≡ (if b then Some m else None)
number_or_none b n m e = ap (λ k. if b then Some k else None) e

first_step : (b : Bool) (n : ℕ) (rest more : Option ℕ) (next : Option ℕ) → more ≡ or_next rest next → (if b then Some n else more) ≡ or_next (if b then Some n else rest) next
first_step true n rest more next e = refl
first_step false n rest more next e = e

pub position_from-push : {A : Type 0} (test : A → Bool) (n : ℕ) (xs : List A) (x : A) → position_from test n (xs ++ x ∷ []) ≡ or_next (position_from test n xs) (if test x then Some (n + length xs) else None)
position_from-push test n [] x = number_or_none (test x) n (n + 0) (omega arith)
position_from-push test n (y ∷ xs) x =
    first_step (test y) n (position_from test (n + 1) xs) _ _
    (position_from-push test (n + 1) xs x ∙ ap (or_next (position_from test (n + 1) xs)) (number_or_none (test x) ((n + 1) + length xs) (n + length (y ∷ xs)) (omega arith)))

-- one more
pub position-push : {A : Type 0} (test : A → Bool) (xs : List A) (x : A) → position test (xs ++ x ∷ []) ≡ or_next (position test xs) (if test x then Some (length xs) else None)
position-push test xs x =
    position_from-zero test (xs ++ x ∷ []) ∙ position_from-push test 0 xs x ∙ ap (or_next (position_from test 0 xs)) (number_or_none (test x) (0 + length xs) (length xs) (omega arith))
    ∙ ap (λ first. or_next first (if test x then Some (length xs) else None)) (sym (position_from-zero test xs))

-- with the one at a place
pub position-more : {A : Type 0} (test : A → Bool) (xs : List A) (k : ℕ) (x : A) → k < length xs → x ≡ get_or xs k x
    → position test (take (k + 1) xs) ≡ or_next (position test (take k xs)) (if test x then Some k else None)
position-more test xs k x h e =
    let more : take (k + 1) xs ≡ take k xs ++ x ∷ [] = take_more xs k x h ∙ ap (λ y. take k xs ++ y ∷ []) (sym e) in
    let within : k ≤ length xs = omega arith in
    ap (position test) more ∙ position-push test (take k xs) x ∙ ap (or_next (position test (take k xs))) (number_or_none (test x) (length (take k xs)) k (length-take-le k xs within))

pub none_next : (first : Option ℕ) → or_next first None ≡ first
none_next None = refl
none_next (Some n) = refl

same_self : (n : ℕ) → (n == n) ≡ true
same_self n = eq-eqb n n refl

-- an item that stands elsewhere
pub others : (before : List DataItem) (item : DataItem) (number : ℕ) (one : Description) → same_number (Some number) item.source.file ≡ false → IsDescription before number one → IsDescription (before ++ item ∷ []) number one
others before item number one e h = record {
  number = h.number;
  record_is = h.record_is ∙ sym (position-push (is_record_under (Some number)) before item ∙ rw e (none_next (position (is_record_under (Some number)) before)));
  unsized_is = h.unsized_is ∙ sym (position-push (is_unsized_under (Some number)) before item ∙ rw e (none_next (position (is_unsized_under (Some number)) before)));
}

-- an item under the description
pub under : (before : List DataItem) (item : DataItem) (number : ℕ) (old new : Description) → item.source.file ≡ Some number → IsDescription before number old → new.number ≡ old.number
    → new.record ≡ or_next old.record (if is_record item then Some (length before) else None) → new.unsized_at ≡ or_next old.unsized_at (if not (has_size item.row) then Some (length before) else None) → IsDescription (before ++ item ∷ []) number new
under before item number old new e h n r s =
    let here : same_number (Some number) item.source.file ≡ true = rw e (same_self number) in record {
      number = n ∙ h.number;
      record_is = r ∙ ap (λ first. or_next first (if is_record item then Some (length before) else None)) h.record_is ∙ sym (position-push (is_record_under (Some number)) before item ∙ rw here refl);
      unsized_is = s ∙ ap (λ first. or_next first (if not (has_size item.row) then Some (length before) else None)) h.unsized_is ∙ sym (position-push (is_unsized_under (Some number)) before item ∙ rw here refl);
    }

-- what stands at a place of a list in which one place was changed
at_set : {A : Type 0} (xs : List A) (i k : ℕ) (v one : A) → i < length xs → slice_get (slice_set xs i v) k ≡ Some one
    → ((k ≡ i) × (one ≡ v)) ⊎ (((k == i) ≡ false) × (slice_get xs k ≡ Some one))
at_set [] i k v one h e = absurd (omega arith)
at_set (x ∷ xs) zero zero v one h e = inl (refl, cc)
at_set (x ∷ xs) zero (suc k) v one h e = inr (eqb-suc-zero k, e)
at_set (x ∷ xs) (suc i) zero v one h e = inr (eqb-zero-suc i, e)
at_set (x ∷ xs) (suc i) (suc k) v one h e = at_later xs v one k i (at_set xs i k v one (omega arith) e)
  where
    at_later : {B : Type 0} (ys : List B) (w other : B) (n m : ℕ) → ((n ≡ m) × (other ≡ w)) ⊎ (((n == m) ≡ false) × (slice_get ys n ≡ Some other))
        → ((suc n ≡ suc m) × (other ≡ w)) ⊎ (((suc n == suc m) ≡ false) × (slice_get ys n ≡ Some other))
    at_later ys w other n m (inl both) = inl (ap suc both.0, both.1)
    at_later ys w other n m (inr both) = inr (eqb-suc-suc n m ∙ both.0, both.1)

-- the one of this number has the item, the others do not
pub set_known : (before : List DataItem) (item : DataItem) (known : List Description) (i k : ℕ) (new one : Description) → item.source.file ≡ Some i → i < length known → AreKnown before known
    → IsDescription (before ++ item ∷ []) i new → slice_get (slice_set known i new) k ≡ Some one → IsDescription (before ++ item ∷ []) k one
set_known before item known i k new one e h all made g = either (at_set known i k new one h g)
  where
    either : ((k ≡ i) × (one ≡ new)) ⊎ (((k == i) ≡ false) × (slice_get known k ≡ Some one)) → IsDescription (before ++ item ∷ []) k one
    either (inl both) = rw (both.0, both.1) made
    either (inr both) = others before item k one (ap (same_number (Some k)) e ∙ both.0) (all k one both.1)

-- no description has the item's number
pub past_all : (before : List DataItem) (item : DataItem) (known : List Description) (i k : ℕ) (one : Description) → item.source.file ≡ Some i → length known ≤ i → AreKnown before known
    → slice_get known k ≡ Some one → IsDescription (before ++ item ∷ []) k one
past_all before item known i k one e h all g =
    let within : k < length known = slice_get_within known k one g in
    let apart : (k == i) ≡ false = grind (arith, nat_tests) in
    others before item k one (ap (same_number (Some k)) e ∙ apart) (all k one g)

-- the first of a name
pub numbers-more : (files : List FileDescription) (k : ℕ) (file : FileDescription) (names : List ℕ → Option ℕ) (old : List ℕ → Option ℕ) → k < length files → file ≡ get_or files k file
    → ((key : List ℕ) → old key ≡ position (λ (one : FileDescription). bytes_eq key (in_small one.name)) (take k files))
    → ((key : List ℕ) → names key ≡ or_next (old key) (if bytes_eq key (in_small file.name) then Some k else None))
    → (key : List ℕ) → names key ≡ position (λ (one : FileDescription). bytes_eq key (in_small one.name)) (take (k + 1) files)
numbers-more files k file names old h e before step key =
    let next : Option ℕ = if bytes_eq key (in_small file.name) then Some k else None in
    step key ∙ ap (λ first. or_next first next) (before key) ∙ sym (position-more (λ (one : FileDescription). bytes_eq key (in_small one.name)) files k file h e)

first_within : (b : Bool) (n m i : ℕ) → nat_lt n m ≡ b → (if b then Some n else None) ≡ Some i → i < m
first_within true n m i t e = let same : n ≡ i = cc in subst (λ (k : ℕ). k < m) same (grind (arith, nat_tests))
first_within false n m i t e = cc

pub position_within : {A : Type 0} (test : A → Bool) (xs : List A) (i : ℕ) → position test xs ≡ Some i → i < length xs
position_within test xs i e = first_within (nat_lt (position_or_len test xs) (length xs)) (position_or_len test xs) (length xs) i refl e

not_past : {A : Type 0} (xs : List A) (k : ℕ) → k < length xs → None ≡ slice_get xs k → ⊥
not_past [] k h e = omega arith
not_past (x ∷ xs) zero h e = cc
not_past (x ∷ xs) (suc k) h e = not_past xs k (omega arith) e

-- what is known of the description of a number
pub described : (front : Front) (items : List DataItem) (name : List ℕ) (all : List Description) (number : ℕ) (result : Option Description) → description_of front name ≡ Some number → AreKnown items all
    → length all ≡ length (descriptions front) → result ≡ slice_get all number → IsDescriptionOf front items name result
described front items name all number None d known l e =
    let within = position_within (λ (one : FileDescription). same_name name one.name) (descriptions front) number d in
    absurd (not_past all number (omega arith) e)
described front items name all number (Some one) d known l e =
    let is = known number one (sym e) in (d ∙ ap Some (sym is.number), subst (λ (n : ℕ). IsDescription items n one) (sym is.number) is)

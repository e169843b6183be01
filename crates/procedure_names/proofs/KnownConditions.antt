-- The 88 entries as the code gathers them: one section after another, and within a section one entry after another.
use Rattle.std.proofs.Common.{◌≡◌, ◌∙◌, refl, sym, ap, subst, arith, ℕ, zero, suc, ◌+◌, ◌<◌, ◌≤◌, List, [], ◌∷◌, ◌++◌, append_assoc, append-nil, add-one, length, map, drop, get_or, Option, Some, None}
use Rattle.std.specs.Prelude.{slice_get}
use Rattle.std.specs.List.{AllZip}
use Rattle.std.proofs.lemmas.List.{length-map, length-append}
use Rattle.std.proofs.lemmas.Option.{slice_get_within}
use Rattle.std.proofs.lemmas.Slice.Zip.{AllZip-long}
use Rattle.std.proofs.lemmas.List.{drop-drop}
use Rattle.std.proofs.Math.Seq.{drop-cons}
use Rattle.cob_base.specs.declared.divisions.Front.{Front}
use Rattle.cob_base.specs.declared.divisions.DataDivision.{DataDivision}
use Rattle.cob_base.specs.declared.divisions.FileDescription.{FileDescription}
use Rattle.cob_base.specs.declared.data_entries.DataEntry.{DataEntry}
use Rattle.cob_base.specs.declared.data_entries.DataEntry.TheVariants.{Item, Condition}
use Rattle.cob_base.specs.declared.data_entries.ItemEntry.{ItemEntry}
use Rattle.cob_base.specs.declared.data_entries.ConditionEntry.{ConditionEntry}
use Rattle.data_layout.specs.Rows.{Section, data_sections, file_section, storage_section}
use Rattle.data_names.specs.Parts.{Source, item_entries, descriptions, descriptions_of, working_storage, working_storage_of}
use Rattle.data_names.specs.Items.{DataItem, AreDataItems, file_sources}
use Rattle.data_names.specs.Spots.{Spot, spots, spots_after}
use Rattle.procedure_names.specs.Conditions.{NamedCondition, condition_on, conditions_after, conditions_in, conditions}
use Rattle.procedure_names.specs.declared.conditions.KnownCondition.{KnownCondition}
use Rattle.procedure_names.specs.declared.conditions.EntryPlace.{EntryPlace}
use Rattle.procedure_names.specs.declared.conditions.Conditions.{Conditions}
use Rattle.procedure_names.specs.SeenConditions.{IsSpotAt, IsKnownCondition, IsStepTo, AreConditions}

-- ---- places of a list

pub length-spots_after : {A : Type 0} (before items : List A) → length (spots_after before items) ≡ length items
length-spots_after before [] = refl
length-spots_after before (x ∷ items) = ap suc (length-spots_after (before ++ x ∷ []) items)

pub record There {A : Type 0} (xs : List A) (k : ℕ) : Type 0 where
  pub one : A
  pub at : slice_get xs k ≡ Some one
  pub rest : drop k xs ≡ one ∷ drop (suc k) xs

pub there : {A : Type 0} (xs : List A) (k : ℕ) → k < length xs → There xs k
there [] k h = absurd (omega arith)
there (x ∷ xs) zero h = record { one = x; at = refl; rest = refl }
there (x ∷ xs) (suc k) h = let t = there xs k (omega arith) in record { one = t.one; at = t.at; rest = t.rest }

pub headed_at : {A : Type 0} (xs : List A) (k : ℕ) (x : A) → k < length xs → x ≡ get_or xs k x → drop k xs ≡ x ∷ drop (k + 1) xs
headed_at xs k x h e = let next : k + 1 ≡ suc k = add-one k in drop-cons xs k x h ∙ ap (λ y. y ∷ drop (suc k) xs) (sym e) ∙ ap (λ n. x ∷ drop n xs) (sym next)

pub all_zip-push : {A B : Type 0} (R : A → B → Type 0) (xs : List A) (ys : List B) (x : A) (y : B) → AllZip R xs ys → R x y → AllZip R (xs ++ x ∷ []) (ys ++ y ∷ [])
all_zip-push R [] [] x y h r = (r, tt)
all_zip-push R [] (z ∷ ys) x y h r = absurd h
all_zip-push R (w ∷ xs) [] x y h r = absurd h
all_zip-push R (w ∷ xs) (z ∷ ys) x y h r = (h.0, all_zip-push R xs ys x y h.1 r)

-- ---- an entry

-- an item's entry
pub step_item : (items : List DataItem) (made : List NamedCondition) (last : Option (Spot DataItem)) (place next : EntryPlace) (entry : ItemEntry) (rest : List DataEntry) (all : List KnownCondition)
    → place.items + length (item_entries (Item entry ∷ rest)) ≤ length items → next.items ≡ place.items + 1 → next.last ≡ Some place.items → AllZip (IsKnownCondition items) all made
    → IsStepTo items made last place (Item entry ∷ rest) rest all next
step_item items made last place next entry rest all h n l known =
    let inside : place.items < length (spots items) = omega (arith, h, length-spots_after [] items) in
    let t = there (spots items) place.items inside in record {
      more = [];
      next_last = Some t.one;
      known = subst (λ some. AllZip (IsKnownCondition items) all some) (sym (append-nil made)) known;
      last_is = subst (λ o. IsSpotAt items (Some t.one) o) (sym l) (omega (arith, h), t.at, refl);
      count = omega (arith, n);
      goes_on = rw (t.rest, n, add-one place.items) refl;
    }

-- an 88 entry
pub step_condition : (items : List DataItem) (made : List NamedCondition) (last : Option (Spot DataItem)) (place : EntryPlace) (entry : ConditionEntry) (rest : List DataEntry) (all : List KnownCondition)
    → IsSpotAt items last place.last → AllZip (IsKnownCondition items) all (made ++ condition_on entry last)
    → IsStepTo items made last place (Condition entry ∷ rest) rest all place
step_condition items made last place entry rest all l known = record {
  more = condition_on entry last;
  next_last = last;
  known = known;
  last_is = l;
  count = refl;
  goes_on = refl;
}

-- one step after another
pub steps : (items : List DataItem) (made : List NamedCondition) (last : Option (Spot DataItem)) (place mid next : EntryPlace) (entries some rest : List DataEntry) (before all : List KnownCondition)
    → (one : IsStepTo items made last place entries some before mid) → IsStepTo items (made ++ one.more) one.next_last mid some rest all next → IsStepTo items made last place entries rest all next
steps items made last place mid next entries some rest before all one two = record {
  more = one.more ++ two.more;
  next_last = two.next_last;
  known = subst (λ known. AllZip (IsKnownCondition items) all known) (append_assoc made one.more two.more) two.known;
  last_is = two.last_is;
  count = two.count ∙ one.count;
  goes_on = one.goes_on ∙ ap (λ back. one.more ++ back) two.goes_on ∙ sym (append_assoc one.more two.more (conditions_after two.next_last rest (drop next.items (spots items))));
}

pub no_step : (items : List DataItem) (made : List NamedCondition) (last : Option (Spot DataItem)) (place : EntryPlace) (entries : List DataEntry) (all : List KnownCondition)
    → IsSpotAt items last place.last → AllZip (IsKnownCondition items) all made → IsStepTo items made last place entries entries all place
no_step items made last place entries all l known = record {
  more = [];
  next_last = last;
  known = subst (λ some. AllZip (IsKnownCondition items) all some) (sym (append-nil made)) known;
  last_is = l;
  count = refl;
  goes_on = refl;
}

-- a section whose entries are passed
pub section_passed : (items : List DataItem) (made : List NamedCondition) (place next : EntryPlace) (entries : List DataEntry) (all : List KnownCondition)
    → IsStepTo items made None place entries [] all next
    → (next.items ≡ place.items + length (item_entries entries)) × AllZip (IsKnownCondition items) all (made ++ conditions_after None entries (drop place.items (spots items)))
section_passed items made place next entries all s = (
  omega (arith, s.count),
  subst (λ some. AllZip (IsKnownCondition items) all (made ++ some)) (sym (s.goes_on ∙ nothing s.more s.next_last (drop next.items (spots items)))) s.known,
)
  where
    nothing : (more : List NamedCondition) (last : Option (Spot DataItem)) (some : List (Spot DataItem)) → more ++ conditions_after last [] some ≡ more
    nothing more last some = append-nil more

-- one more, where there is an item before it
pub pushed : (items : List DataItem) (made : List NamedCondition) (all : List KnownCondition) (known : KnownCondition) (spot : Option (Spot DataItem)) (entry : ConditionEntry)
    → IsSpotAt items spot (Some known.item) → known.entry.now ≡ entry → AllZip (IsKnownCondition items) all made → AllZip (IsKnownCondition items) (all ++ known ∷ []) (made ++ condition_on entry spot)
pushed items made all known None entry l e h = cc
pushed items made all known (Some spot) entry l e h =
    all_zip-push (IsKnownCondition items) all made known (record { entry = entry; spot = spot }) h (record { entry = e; item = l.1 })

pub not_pushed : (items : List DataItem) (made : List NamedCondition) (all : List KnownCondition) (spot : Option (Spot DataItem)) (entry : ConditionEntry)
    → spot ≡ None → AllZip (IsKnownCondition items) all made → AllZip (IsKnownCondition items) all (made ++ condition_on entry spot)
not_pushed items made all spot entry e h = rw e (subst (λ some. AllZip (IsKnownCondition items) all some) (sym (append-nil made)) h)

-- ---- sections

-- the items of some sections
abbrev pub count_in : List Section → ℕ
count_in [] = 0
count_in (section ∷ others) = length (item_entries section.entries) + count_in others

-- the sections of files, then working storage
abbrev pub all_sections : List FileDescription → List DataEntry → List Section
all_sections files storage = map file_section files ++ storage_section storage ∷ []

-- what the code has before the rest of the sections
pub record Gathered (front : Front) (items : List DataItem) (rest : List Section) (all : List KnownCondition) (count : ℕ) : Type 0 where
  pub made : List NamedCondition
  pub known : AllZip (IsKnownCondition items) all made
  pub goes_on : conditions front items ≡ made ++ conditions_in rest (drop count (spots items))
  pub count_is : count + count_in rest ≡ length items

conditions_of_data : (d : Option DataDivision) (some : List (Spot DataItem)) → conditions_in (data_sections d) some ≡ conditions_in (all_sections (descriptions_of d) (working_storage_of d)) some
conditions_of_data None some = refl
conditions_of_data (Some division) some = refl

length-file_sources : (n : ℕ) (files : List FileDescription) (storage : List DataEntry) → length (file_sources n files) + length (item_entries storage) ≡ count_in (all_sections files storage)
length-file_sources n [] storage = omega arith
length-file_sources n (file ∷ files) storage =
    let one : List Source = map (λ entry. record { file = Some n; entry = entry }) (item_entries file.records) in
    let long : length one ≡ length (item_entries file.records) = length-map (item_entries file.records) (λ entry. record { file = Some n; entry = entry }) in
    omega (arith, length-append one (file_sources (n + 1) files), long, length-file_sources (n + 1) files storage)

pub count_of_items : (front : Front) (items : List DataItem) → AreDataItems front items → length items ≡ count_in (all_sections (descriptions front) (working_storage front))
count_of_items front items h =
    let files : List Source = file_sources 0 (descriptions front) in
    let storage : List Source = map (λ entry. record { file = None; entry = entry }) (item_entries (working_storage front)) in
    let long : length storage ≡ length (item_entries (working_storage front)) = length-map (item_entries (working_storage front)) (λ entry. record { file = None; entry = entry }) in
    let all : length (map (λ (item : DataItem). item.source) items) ≡ length (files ++ storage) = ap length h.entries in
    omega (arith, all, length-map items (λ (item : DataItem). item.source), length-append files storage, long, length-file_sources 0 (descriptions front) (working_storage front))

pub gathered_none : (front : Front) (items : List DataItem) → AreDataItems front items → Gathered front items (all_sections (descriptions front) (working_storage front)) [] 0
gathered_none front items h = record {
  made = [];
  known = tt;
  goes_on = conditions_of_data front.data (spots items);
  count_is = omega (arith, count_of_items front items h);
}

pub gathered_more : (front : Front) (items : List DataItem) (section : Section) (rest : List Section) (old new : List KnownCondition) (count next : ℕ) → (g : Gathered front items (section ∷ rest) old count)
    → (next ≡ count + length (item_entries section.entries)) × AllZip (IsKnownCondition items) new (g.made ++ conditions_after None section.entries (drop count (spots items)))
    → Gathered front items rest new next
gathered_more front items section rest old new count next g h =
    let here : List NamedCondition = conditions_after None section.entries (drop count (spots items)) in
    let behind : drop (length (item_entries section.entries)) (drop count (spots items)) ≡ drop next (spots items) =
    drop-drop (length (item_entries section.entries)) count (spots items) ∙ ap (λ k. drop k (spots items)) (sym h.0) in
    record {
      made = g.made ++ here;
      known = h.1;
      goes_on = g.goes_on ∙ ap (λ some. g.made ++ (here ++ conditions_in rest some)) behind ∙ sym (append_assoc g.made here (conditions_in rest (drop next (spots items))));
      count_is = omega (arith, g.count_is, h.0);
    }

-- ---- one of them

zip_at : {A B : Type 0} (R : A → B → Type 0) (xs : List A) (ys : List B) (k : ℕ) (x : A) (y : B) → AllZip R xs ys → slice_get ys k ≡ Some y → slice_get xs k ≡ Some x → R x y
zip_at R [] [] k x y h e g = cc
zip_at R [] (z ∷ ys) k x y h e g = absurd h
zip_at R (w ∷ xs) [] k x y h e g = absurd h
zip_at R (w ∷ xs) (z ∷ ys) zero x y h e g = let same : z ≡ y = cc in let other : w ≡ x = cc in subst (λ s. R x s) same (subst (λ s. R s z) other h.0)
zip_at R (w ∷ xs) (z ∷ ys) (suc k) x y h e g = zip_at R xs ys k x y h.1 e g

pub known_at : (front : Front) (items : List DataItem) (known : Conditions) (at : ℕ) (one : KnownCondition) (named : NamedCondition) → AreConditions front items known → slice_get (conditions front items) at ≡ Some named
    → slice_get known.all.items at ≡ Some one → IsKnownCondition items one named
known_at front items known at one named h e g = zip_at (IsKnownCondition items) known.all.items (conditions front items) at one named h.all e g

-- the numbers of 88 entries are within those that the code knows
pub within_conditions : (front : Front) (items : List DataItem) (known : Conditions) (at : ℕ) (named : NamedCondition) → AreConditions front items known → slice_get (conditions front items) at ≡ Some named
    → at < length known.all.items
within_conditions front items known at named h e =
    omega (arith, slice_get_within (conditions front items) at named e, AllZip-long (IsKnownCondition items) known.all.items (conditions front items) h.all)

-- the 88 entry at a number, as it is known and as it is named
pub record Both (items : List DataItem) (named : List NamedCondition) (k : ℕ) (x : KnownCondition) : Type 0 where
  pub one : NamedCondition
  pub within : k < length named
  pub read : one ≡ get_or named k one
  pub known : IsKnownCondition items x one

pub both_at : (items : List DataItem) (all : List KnownCondition) (named : List NamedCondition) (k : ℕ) (x : KnownCondition) → AllZip (IsKnownCondition items) all named → k < length all → x ≡ get_or all k x → Both items named k x
both_at items [] named k x h l e = absurd (omega arith)
both_at items (w ∷ all) [] k x h l e = absurd h
both_at items (w ∷ all) (z ∷ named) zero x h l e = record { one = z; within = omega arith; read = refl; known = subst (λ (s : KnownCondition). IsKnownCondition items s z) (sym e) h.0 }
both_at items (w ∷ all) (z ∷ named) (suc k) x h l e =
    let rest = both_at items all named k x h.1 (omega arith) e in record { one = rest.one; within = omega (arith, rest.within); read = rest.read; known = rest.known }

-- what is known of one that the code knows
pub record Known (front : Front) (items : List DataItem) (known : Conditions) (at : ℕ) : Type 0 where
  pub named : NamedCondition
  pub is : slice_get (conditions front items) at ≡ Some named

pub known : (front : Front) (items : List DataItem) (all : Conditions) (at : ℕ) → AreConditions front items all → at < length all.all.items → Known front items all at
known front items all at h l =
    let t = there (conditions front items) at (omega (arith, l, AllZip-long (IsKnownCondition items) all.all.items (conditions front items) h.all)) in
    record { named = t.one; is = t.at }

-- its item is within the items
pub item_within : (items : List DataItem) (known : KnownCondition) (named : NamedCondition) → IsKnownCondition items known named → known.item < length items
item_within items known named h = omega (arith, slice_get_within (spots items) known.item named.spot h.item, length-spots_after [] items)

pub nowhere : (items : List DataItem) → IsSpotAt items None None
nowhere items = refl

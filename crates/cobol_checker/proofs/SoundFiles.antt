-- The files of a front without faults.
use Rattle.std.proofs.Common.{◌≡◌, ◌∙◌, inl, inr, refl, sym, ap, subst, arith, ℕ, zero, suc, ◌+◌, ◌<◌, ◌≤◌, ◌==◌, Bool, true, false, not, ◌&&◌, ◌||◌, nat_lt, List, [], ◌∷◌, ◌++◌, length, map, get_or, Option, Some, None}
use Rattle.std.specs.Prelude.{filter, option_to_list, is_none, count_by, slice_get}
use Rattle.std.specs.List.{list_any, list_all, filter_map, flat_map, position_from}
use Rattle.std.proofs.lemmas.Bool.{cases_lt, eq-eqb}
use Rattle.std.proofs.lemmas.Bool.Decides.{nat_tests}
use Rattle.std.proofs.lemmas.Iterator.Adapters.{position_from-zero}
use Rattle.cob_base.specs.declared.divisions.Front.{Front}
use Rattle.cob_base.specs.declared.divisions.FileDescription.{FileDescription}
use Rattle.cob_base.specs.declared.file_entries.FileEntry.{FileEntry}
use Rattle.cob_base.specs.declared.operands.Reference.{Reference}
use Rattle.sharing_table.specs.declared.shape.KeyPlace.{KeyPlace}
use Rattle.data_layout.specs.Rows.{sections}
use Rattle.data_layout.specs.Storage.{storage}
use Rattle.data_layout.specs.Faults.{has_size, is_unreadable}
use Rattle.data_layout.proofs.PlacedRows.{keeps_limit}
use Rattle.data_names.specs.Items.{DataItem, AreDataItems}
use Rattle.data_names.specs.Parts.{files, descriptions, crt_status, screen_entries}
use Rattle.data_names.specs.Spots.{Spot, rows_before, bytes_of}
use Rattle.data_names.specs.References.{found, same_name, count_of_matches}
use Rattle.data_names.proofs.Opened.{list_any-map}
use Rattle.data_names.proofs.SameItems.{items_once}
use Rattle.entry_clauses.specs.Clauses.{Alternate, record_key, alternates, file_status}
use Rattle.name_rules.specs.Mentions.{Mention, mention, mentions, references, subscript_items, keys_of, references_of_file, references_of_screen, reference_of_crt}
use Rattle.front_rules.specs.Faults.{front_faults}
use Rattle.name_rules.specs.UnknownNames.{is_described}
use Rattle.front_rules.specs.Limits.{is_key_past_limit, has_key_past_limit}
use Rattle.key_rules.specs.KeyPlaces.{description_of, is_no_key, placed_key, same_place, has_twins, has_no_key, are_at_one_place, has_bad_clauses, has_bad_keys}
use Rattle.entry_clauses.specs.ScreenItems.{ScreenItem}
use Rattle.cobol_checker.specs.Judged.{IsFaultless}
use Rattle.cobol_checker.specs.Shapes.{AreKeyPlaces, record_of}
use Rattle.cobol_checker.specs.Sound.{IsPlaceIn, AreKeysIn, AreApart, IsSoundFile, AreSoundFiles, rank}
use Rattle.cobol_checker.proofs.NoFaults.{faultless_of, NoneFails, none_fails, empty_parts, none_told}
use Rattle.cobol_checker.proofs.LaidOut.{laid_rows}
use Rattle.cobol_checker.proofs.Sectioned.{sectioned}
use Rattle.cobol_checker.proofs.Grouped.{grouped_all}
use Rattle.cobol_checker.proofs.SoundKeys.{Whole, KeyGood, key_good}

neither : (a b : Bool) → (a || b) ≡ false → (a ≡ false) × (b ≡ false)
neither false false h = (refl, refl)
neither false true h = cc h
neither true b h = cc h

not_false : (b : Bool) → not b ≡ false → b ≡ true
not_false true h = refl
not_false false h = cc h

-- ---- what no reference has

any_front : {A : Type 0} (p : A → Bool) (xs ys : List A) → list_any p (xs ++ ys) ≡ false → list_any p xs ≡ false
any_front p [] ys h = refl
any_front p (x ∷ xs) ys h = let parts = neither (p x) (list_any p (xs ++ ys)) h in rw (parts.0, any_front p xs ys parts.1) refl

any_back : {A : Type 0} (p : A → Bool) (xs ys : List A) → list_any p (xs ++ ys) ≡ false → list_any p ys ≡ false
any_back p [] ys h = h
any_back p (x ∷ xs) ys h = any_back p xs ys (neither (p x) (list_any p (xs ++ ys)) h).1

any_flat : {A B : Type 0} (p : B → Bool) (f : A → List B) (xs : List A) → list_any p (flat_map f xs) ≡ false → list_any (λ x. list_any p (f x)) xs ≡ false
any_flat p f [] h = refl
any_flat p f (x ∷ xs) h = rw (any_front p (f x) (flat_map f xs) h, any_flat p f xs (any_back p (f x) (flat_map f xs) h)) refl

-- no reference of a file passes
of_files : (front : Front) (p : Reference → Bool) → list_any (λ (one : Mention). p one.reference) (mentions front) ≡ false → list_any (λ (file : FileEntry). list_any p (keys_of file)) (files front) ≡ false
of_files front p h =
    let q : Mention → Bool = λ (one : Mention). p one.reference in
    let all = any_front q (references front) (subscript_items front) h in
    let two = any_front q _ (flat_map (λ entry. map (mention entry.line) (references_of_screen entry)) (screen_entries front)) all in
    let first = any_front q (flat_map (λ (file : FileEntry). map (mention file.line) (references_of_file file)) (files front)) (map (λ crt. mention crt.line (reference_of_crt crt)) (crt_status front)) two in
    keys_alone (files front) (any_flat q (λ (file : FileEntry). map (mention file.line) (references_of_file file)) (files front) first)
  where
    keys_alone : (all : List FileEntry) → list_any (λ (file : FileEntry). list_any (λ (one : Mention). p one.reference) (map (mention file.line) (references_of_file file))) all ≡ false
        → list_any (λ (file : FileEntry). list_any p (keys_of file)) all ≡ false
    keys_alone [] e = refl
    keys_alone (file ∷ all) e =
        let parts = neither (list_any (λ (one : Mention). p one.reference) (map (mention file.line) (references_of_file file))) _ e in
        let here : list_any p (references_of_file file) ≡ false = sym (list_any-map (mention file.line) (λ (one : Mention). p one.reference) (references_of_file file)) ∙ parts.0 in
        rw (any_front p (keys_of file) (option_to_list (file_status file.clauses)) here, keys_alone all parts.1) refl

-- ---- the whole

or_true : (a b : Bool) → b ≡ true → (a || b) ≡ true
or_true true b e = refl
or_true false b e = e

not_true : (b : Bool) → b ≡ false → not b ≡ true
not_true true e = cc e
not_true false e = refl

all_sized : (items : List DataItem) → list_any (λ (item : DataItem). is_unreadable item.row.spelled) items ≡ false → list_all (λ (item : DataItem). has_size item.row) items ≡ true
all_sized [] e = refl
all_sized (x ∷ items) e =
    let parts = neither (is_unreadable x.row.spelled) _ e in
    let here : has_size x.row ≡ true = or_true x.row.group (not (is_unreadable x.row.spelled)) (not_true (is_unreadable x.row.spelled) parts.0) in
    rw (here, all_sized items parts.1) refl

whole : (front : Front) (items : List DataItem) (screens : List ScreenItem) (h : AreDataItems front items) (n : NoneFails front items screens) → Whole items
whole front items screens h n = record {
  sections = sectioned front items h;
  grouped = grouped_all 0 (sections front) (map (λ (item : DataItem). item.row) items) (map (λ (item : DataItem). item.text) items) h.rows;
  past = n.past;
  sized = all_sized items n.unreadable;
  total = keeps_limit [] (map (λ (item : DataItem). item.row) items) (omega arith) refl (laid_rows [] items n.past n.outside n.wrong n.unreadable);
}

-- ---- the description of a file

here_or_later : {A : Type 0} (test : A → Bool) (n : ℕ) (x : A) (xs : List A) (b : Bool) → test x ≡ b → (b || list_any test xs) ≡ true
    → (list_any test xs ≡ true → (k : ℕ) × (position_from test (n + 1) xs ≡ Some k)) → (k : ℕ) × (position_from test n (x ∷ xs) ≡ Some k)
here_or_later test n x xs true t e later = (n, rw t refl)
here_or_later test n x xs false t e later = let more = later e in (more.0, rw t more.1)

first_number : {A : Type 0} (test : A → Bool) (n : ℕ) (xs : List A) → list_any test xs ≡ true → (k : ℕ) × (position_from test n xs ≡ Some k)
first_number test n [] e = cc e
first_number test n (x ∷ xs) e = here_or_later test n x xs (test x) refl e (λ later. first_number test (n + 1) xs later)

described : (front : Front) (name : List ℕ) → is_described front name ≡ true → (number : ℕ) × (description_of front name ≡ Some number)
described front name e =
    let k = first_number (λ (description : FileDescription). same_name name description.name) 0 (descriptions front) e in
    (k.0, position_from-zero (λ (description : FileDescription). same_name name description.name) (descriptions front) ∙ k.1)

-- ---- the keys of a file

abbrev pub AllGood : Front → List DataItem → FileEntry → ℕ → List Reference → Type 0
AllGood front items file number [] = Unit {0}
AllGood front items file number (key ∷ keys) = KeyGood front items file number key × AllGood front items file number keys

all_good : (front : Front) (items : List DataItem) (file : FileEntry) (number : ℕ) (keys : List Reference) → Whole items → description_of front file.name ≡ Some number
    → list_any (λ (key : Reference). count_of_matches items key == 0) keys ≡ false → list_any (λ (key : Reference). nat_lt 1 (count_of_matches items key)) keys ≡ false
    → list_any (λ (key : Reference). is_no_key (Some number) (found items key)) keys ≡ false → list_any (λ (key : Reference). is_key_past_limit (found items key)) keys ≡ false
    → AllGood front items file number keys
all_good front items file number [] w d a b c e = tt
all_good front items file number (key ∷ keys) w d a b c e =
    let as' = neither (count_of_matches items key == 0) _ a in
    let bs = neither (nat_lt 1 (count_of_matches items key)) _ b in
    let cs = neither (is_no_key (Some number) (found items key)) _ c in
    let es = neither (is_key_past_limit (found items key)) _ e in
    (key_good front items file number key w d as'.0 bs.0 cs.0 es.0, all_good front items file number keys w d as'.1 bs.1 cs.1 es.1)

-- the alternates lie in the record of the prime key
others_in : (front : Front) (items : List DataItem) (file : FileEntry) (number : ℕ) (owner : Spot DataItem) (others : List Alternate) → record_of front items file ≡ Some owner
    → AllGood front items file number (map (λ (one : Alternate). one.key) others) → AreKeysIn items (storage (rows_before owner)) others
others_in front items file number owner [] e g = tt
others_in front items file number owner (one ∷ others) e g =
    let same : g.0.owner ≡ owner = cc (g.0.owner_is, e) in
    (record { spot = g.0.spot; found_is = g.0.found_is; inside = subst (λ (o : Spot DataItem). IsPlaceIn (storage (rows_before o)) g.0.spot) same g.0.inside }, others_in front items file number owner others e g.1)

-- the places of alternates are short
short_places : (front : Front) (items : List DataItem) (file : FileEntry) (number begins : ℕ) (others : List Alternate) (places : List KeyPlace) → AllGood front items file number (map (λ (one : Alternate). one.key) others)
    → AreKeyPlaces items begins others places → (i : ℕ) (d : KeyPlace) → i < length places → (get_or places i d).length < 65536
short_places front items file number begins [] places g k i d h = absurd (omega (arith, ap length k, h))
short_places front items file number begins (one ∷ others) [] g k i d h = absurd k
short_places front items file number begins (one ∷ others) (place ∷ places) g k zero d h =
    let same : g.0.spot ≡ k.0.spot = cc (g.0.found_is, k.0.found_is) in
    let size : place.length ≡ bytes_of g.0.spot = k.0.length_is ∙ ap bytes_of (sym same) in omega (arith, size, g.0.inside.few)
short_places front items file number begins (one ∷ others) (place ∷ places) g k (suc i) d h = short_places front items file number begins others places g.1 k.1 i d (omega arith)

-- ---- places apart

apart_at : {A : Type 0} (test : A → Bool) (xs : List A) (j : ℕ) (y : A) → list_any test xs ≡ false → slice_get xs j ≡ Some y → test y ≡ false
apart_at test [] j y e h = cc h
apart_at test (x ∷ xs) zero y e h = let same : x ≡ y = cc h in ap test (sym same) ∙ (neither (test x) _ e).0
apart_at test (x ∷ xs) (suc j) y e h = apart_at test xs j y (neither (test x) _ e).1 h

twins_apart : {A : Type 0} (same : A → A → Bool) (xs : List A) (i j : ℕ) (x y : A) → has_twins same xs ≡ false → i < j → slice_get xs i ≡ Some x → slice_get xs j ≡ Some y → same x y ≡ false
twins_apart same [] i j x y e l h k = cc h
twins_apart same (z ∷ xs) zero zero x y e l h k = absurd (omega arith)
twins_apart same (z ∷ xs) zero (suc j) x y e l h k = let first : z ≡ x = cc h in ap (λ w. same w y) (sym first) ∙ apart_at (same z) xs j y (neither (list_any (same z) xs) _ e).0 k
twins_apart same (z ∷ xs) (suc i) zero x y e l h k = absurd (omega arith)
twins_apart same (z ∷ xs) (suc i) (suc j) x y e l h k = twins_apart same xs i j x y (neither (list_any (same z) xs) _ e).1 (omega arith) h k

later_twins : {A B : Type 0} (same : B → B → Bool) (f : A → Option B) (x : A) (xs : List A) (o : Option B) → f x ≡ o → has_twins same (filter_map f (x ∷ xs)) ≡ false → has_twins same (filter_map f xs) ≡ false
later_twins same f x xs None e h = rw e at h
later_twins same f x xs (Some y) e h = (neither (list_any (same y) (filter_map f xs)) _ (rw e at h)).1

-- the item of an alternate, which lies at its place
record SpotAt (spots : List (Spot DataItem)) (i begins : ℕ) (place : KeyPlace) : Type 0 where
  spot : Spot DataItem
  at : slice_get spots i ≡ Some spot
  offset : storage (rows_before spot) ≡ begins + place.offset
  size : bytes_of spot ≡ place.length

-- where the keys of some alternates lie
spot_at : (front : Front) (items : List DataItem) (file : FileEntry) (number begins : ℕ) (others : List Alternate) (places : List KeyPlace) → AllGood front items file number (map (λ (one : Alternate). one.key) others)
    → AreKeyPlaces items begins others places → (i : ℕ) (d : KeyPlace) → i < length places
    → SpotAt (filter_map (λ (key : Reference). placed_key (Some number) (found items key)) (map (λ (one : Alternate). one.key) others)) i begins (get_or places i d)
spot_at front items file number begins [] places g k i d h = absurd (omega (arith, ap length k, h))
spot_at front items file number begins (one ∷ others) [] g k i d h = absurd k
spot_at front items file number begins (one ∷ others) (place ∷ places) g k zero d h =
    let same : g.0.spot ≡ k.0.spot = cc (g.0.found_is, k.0.found_is) in
    record {
      spot = g.0.spot;
      at = rw (g.0.found_is, g.0.placed) refl;
      offset = ap (λ (spot : Spot DataItem). storage (rows_before spot)) same ∙ sym k.0.offset;
      size = ap bytes_of same ∙ sym k.0.length_is;
    }
spot_at front items file number begins (one ∷ others) (place ∷ places) g k (suc i) d h =
    let later = spot_at front items file number begins others places g.1 k.1 i d (omega arith) in
    record { spot = later.spot; at = rw (g.0.found_is, g.0.placed) later.at; offset = later.offset; size = later.size }

together : (begins s t u v : ℕ) (p q : KeyPlace) → s ≡ begins + p.offset → t ≡ begins + q.offset → u ≡ p.length → v ≡ q.length → p.length < 65536 → q.length < 65536 → rank p ≡ rank q
    → ((s == t) && (u == v)) ≡ true
together begins s t u v p q so to us ve hp hq e =
    let offsets : s ≡ t = omega (arith, so, to, hp, hq, e) in
    let lengths : u ≡ v = omega (arith, us, ve, hp, hq, e) in
    rw (eq-eqb s t offsets, eq-eqb u v lengths) refl

places_apart : (front : Front) (items : List DataItem) (file : FileEntry) (number begins : ℕ) (others : List Alternate) (places : List KeyPlace) → AllGood front items file number (map (λ (one : Alternate). one.key) others)
    → AreKeyPlaces items begins others places → has_twins same_place (filter_map (λ (key : Reference). placed_key (Some number) (found items key)) (map (λ (one : Alternate). one.key) others)) ≡ false
    → (i j : ℕ) (d : KeyPlace) → i < j → j < length places → rank (get_or places i d) ≡ rank (get_or places j d) → ⊥
places_apart front items file number begins others places g k t i j d l h e =
    let within : i < length places = omega (arith, l, h) in
    let x = spot_at front items file number begins others places g k i d within in
    let y = spot_at front items file number begins others places g k j d h in
    let short_x = short_places front items file number begins others places g k i d within in
    let short_y = short_places front items file number begins others places g k j d h in
    let apart = twins_apart same_place _ i j x.spot y.spot t l x.at y.at in
    cc (apart, together begins (storage (rows_before x.spot)) (storage (rows_before y.spot)) (bytes_of x.spot) (bytes_of y.spot) (get_or places i d) (get_or places j d) x.offset y.offset x.size y.size short_x short_y e)

apart_places : (front : Front) (items : List DataItem) (file : FileEntry) (number begins : ℕ) (others : List Alternate) → AllGood front items file number (map (λ (one : Alternate). one.key) others)
    → has_twins same_place (filter_map (λ (key : Reference). placed_key (Some number) (found items key)) (map (λ (one : Alternate). one.key) others)) ≡ false
    → (places : List KeyPlace) → AreKeyPlaces items begins others places → AreApart places
apart_places front items file number begins others g t places k = record {
  apart = λ i j d hi hj ne e. elim (cases_lt i j) as (λ _. ⊥) [
    | inl less ↦ places_apart front items file number begins others places g k t i j d less hj e
    | inr more ↦ (let less : j < i = omega (arith, more, ne) in places_apart front items file number begins others places g k t j i d less hi (sym e))
  ];
  few = λ i d h. short_places front items file number begins others places g k i d h;
}

-- ---- a file

some_of : {A : Type 0} (o : Option A) → is_none o ≡ false → (x : A) × (o ≡ Some x)
some_of None e = cc e
some_of (Some x) e = (x, refl)

no_more : (k n : ℕ) → nat_lt k n ≡ false → n ≤ k
no_more k n h = grind (arith, nat_tests)

-- the references of the alternates of a file
abbrev others_of : FileEntry → List Reference
others_of file = map (λ (one : Alternate). one.key) (alternates file.clauses)

-- what no condition leaves open of a file: its description, its prime key and its alternates, all of them good, and no two at one place
pub record Known (front : Front) (items : List DataItem) (file : FileEntry) : Type 0 where
  pub number : ℕ
  pub described : description_of front file.name ≡ Some number
  pub key : Reference
  pub key_is : record_key file.clauses ≡ Some key
  pub prime : KeyGood front items file number key
  pub others : AllGood front items file number (others_of file)
  pub twins : has_twins same_place (filter_map (λ (one : Reference). placed_key (Some number) (found items one)) (key ∷ others_of file)) ≡ false
  pub few : length (alternates file.clauses) ≤ 3
  pub duplicates : count_by (λ (one : Alternate). one.duplicates) (alternates file.clauses) ≤ 1

abbrev pub AllKnown : Front → List DataItem → List FileEntry → Type 0
AllKnown front items [] = Unit {0}
AllKnown front items (file ∷ all) = Known front items file × AllKnown front items all

file_known : (front : Front) (items : List DataItem) (file : FileEntry) → Whole items → not (is_described front file.name) ≡ false
    → list_any (λ (key : Reference). count_of_matches items key == 0) (keys_of file) ≡ false → list_any (λ (key : Reference). nat_lt 1 (count_of_matches items key)) (keys_of file) ≡ false
    → has_bad_keys front items file ≡ false → has_key_past_limit items file ≡ false → Known front items file
file_known front items file w u none several bad past =
    let n = described front file.name (not_false (is_described front file.name) u) in
    let number = n.0 in
    let description = description_of front file.name in
    let bad2 = neither (has_bad_clauses file.clauses || has_no_key items description file) (are_at_one_place items description file) bad in
    let bad1 = neither (has_bad_clauses file.clauses) (has_no_key items description file) bad2.0 in
    let clauses2 = neither (is_none (record_key file.clauses) || nat_lt 3 (length (alternates file.clauses))) (nat_lt 1 (count_by (λ (one : Alternate). one.duplicates) (alternates file.clauses))) bad1.0 in
    let clauses1 = neither (is_none (record_key file.clauses)) (nat_lt 3 (length (alternates file.clauses))) clauses2.0 in
    let prime = some_of (record_key file.clauses) clauses1.0 in
    let keys_are : keys_of file ≡ prime.0 ∷ others_of file = ap (λ (key : Option Reference). option_to_list key ++ others_of file) prime.1 in
    let no_key : has_no_key items (Some number) file ≡ false = ap (λ (one : Option ℕ). has_no_key items one file) (sym n.1) ∙ bad1.1 in
    let twins : are_at_one_place items (Some number) file ≡ false = ap (λ (one : Option ℕ). are_at_one_place items one file) (sym n.1) ∙ bad2.1 in
    let all = all_good front items file number (keys_of file) w n.1 none several no_key past in
    let good = subst (AllGood front items file number) keys_are all in
    record {
      number = number;
      described = n.1;
      key = prime.0;
      key_is = prime.1;
      prime = good.0;
      others = good.1;
      twins = subst (λ (keys : List Reference). has_twins same_place (filter_map (λ (key : Reference). placed_key (Some number) (found items key)) keys) ≡ false) keys_are twins;
      few = no_more 3 (length (alternates file.clauses)) clauses1.1;
      duplicates = no_more 1 (count_by (λ (one : Alternate). one.duplicates) (alternates file.clauses)) clauses2.1;
    }

file_sound : (front : Front) (items : List DataItem) (file : FileEntry) → Known front items file → IsSoundFile front items file
file_sound front items file k =
    let apart = later_twins same_place (λ (key : Reference). placed_key (Some k.number) (found items key)) k.key (others_of file) _ refl k.twins in
    record {
      number = k.number;
      described = k.described;
      spot = k.prime.owner;
      record_is = k.prime.owner_is;
      record_few = k.prime.few;
      begins_few = k.prime.begins;
      prime = (k.key, k.key_is, record { spot = k.prime.spot; found_is = k.prime.found_is; inside = k.prime.inside });
      others = others_in front items file k.number k.prime.owner (alternates file.clauses) k.prime.owner_is k.others;
      apart = apart_places front items file k.number (storage (rows_before k.prime.owner)) (alternates file.clauses) k.others apart;
    }

all_known : (front : Front) (items : List DataItem) (all : List FileEntry) → Whole items → list_any (λ (file : FileEntry). not (is_described front file.name)) all ≡ false
    → list_any (λ (file : FileEntry). list_any (λ (key : Reference). count_of_matches items key == 0) (keys_of file)) all ≡ false
    → list_any (λ (file : FileEntry). list_any (λ (key : Reference). nat_lt 1 (count_of_matches items key)) (keys_of file)) all ≡ false
    → list_any (has_bad_keys front items) all ≡ false → list_any (has_key_past_limit items) all ≡ false → AllKnown front items all
all_known front items [] w a b c d e = tt
all_known front items (file ∷ all) w a b c d e =
    let as' = neither (not (is_described front file.name)) _ a in
    let bs = neither (list_any (λ (key : Reference). count_of_matches items key == 0) (keys_of file)) _ b in
    let cs = neither (list_any (λ (key : Reference). nat_lt 1 (count_of_matches items key)) (keys_of file)) _ c in
    let ds = neither (has_bad_keys front items file) _ d in
    let es = neither (has_key_past_limit items file) _ e in
    (file_known front items file w as'.0 bs.0 cs.0 ds.0 es.0, all_known front items all w as'.1 bs.1 cs.1 ds.1 es.1)

pub known_files : (front : Front) (items : List DataItem) → AreDataItems front items → IsFaultless front → AllKnown front items (files front)
known_files front items h f =
    let faults : front_faults front items f.screens ≡ [] = ap (λ (all : List DataItem). front_faults front all f.screens) (items_once front items f.items h f.items_are) ∙ f.faultless in
    let lists = faultless_of front items f.screens faults in
    let none = none_fails front items f.screens lists in
    let unknown2 = empty_parts _ (map (λ (one : Mention). one.line) (filter (λ (one : Mention). count_of_matches items one.reference == 0) (mentions front))) lists.unknown in
    let unknown1 = empty_parts (map (λ (file : FileEntry). file.line) (filter (λ (file : FileEntry). not (is_described front file.name)) (files front))) _ unknown2.0 in
    let undescribed = none_told (λ (file : FileEntry). file.line) (λ (file : FileEntry). not (is_described front file.name)) (files front) unknown1.0 in
    let unmatched = none_told (λ (one : Mention). one.line) (λ (one : Mention). count_of_matches items one.reference == 0) (mentions front) unknown2.1 in
    let several = none_told (λ (one : Mention). one.line) (λ (one : Mention). nat_lt 1 (count_of_matches items one.reference)) (mentions front) lists.ambiguous in
    all_known front items (files front) (whole front items f.screens h none) undescribed (of_files front (λ (key : Reference). count_of_matches items key == 0) unmatched)
    (of_files front (λ (key : Reference). nat_lt 1 (count_of_matches items key)) several) none.bad_keys none.keys_past

all_sound : (front : Front) (items : List DataItem) (all : List FileEntry) → AllKnown front items all → AreSoundFiles front items all
all_sound front items [] k = tt
all_sound front items (file ∷ all) k = (file_sound front items file k.0, all_sound front items all k.1)

pub sound_files : (front : Front) (items : List DataItem) → AreDataItems front items → IsFaultless front → AreSoundFiles front items (files front)
sound_files front items h f = all_sound front items (files front) (known_files front items h f)

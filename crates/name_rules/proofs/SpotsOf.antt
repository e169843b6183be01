-- Faults of items among others, one item after another.
use Rattle.std.proofs.Common.{◌≡◌, ◌∙◌, refl, sym, ap, arith, ℕ, zero, suc, ◌+◌, ◌<◌, ◌≤◌, add-one, ◌||◌, Bool, true, false, List, [], ◌∷◌, ◌++◌, append_assoc, append-nil, map, length, take, drop, get_or, Some}
use Rattle.std.specs.Prelude.{if◌then◌else◌, filter, slice_get}
use Rattle.std.specs.List.{list_any}
use Rattle.std.proofs.lemmas.List.{map-append, get_or-map, length-map, take_all}
use Rattle.std.proofs.lemmas.List.Elements.{filter-append}
use Rattle.cob_base.specs.declared.line.Line.{Line}
use Rattle.data_names.specs.declared.known.KnownItem.{KnownItem}
use Rattle.data_names.specs.Items.{DataItem}
use Rattle.data_names.specs.Seen.{seen_item}
use Rattle.data_names.specs.Spots.{Spot, spots, spots_after, spot_of}
use Rattle.name_rules.specs.declared.fault.Fault.{Fault}
use Rattle.name_rules.specs.Faults.{faults_at, fault_where}

-- the place of an item among the others
pub record Placed {A : Type 0} (items : List A) (k : ℕ) (item : A) : Type 0 where
  pub more : take (k + 1) (spots items) ≡ take k (spots items) ++ spot_of (take k items) item (drop (k + 1) items) ∷ []
  pub at : slice_get (spots items) k ≡ Some (spot_of (take k items) item (drop (k + 1) items))

more_after : {A : Type 0} (before items : List A) (k : ℕ) (item : A) → k < length items → item ≡ get_or items k item
    → (take (suc k) (spots_after before items) ≡ take k (spots_after before items) ++ spot_of (before ++ take k items) item (drop (suc k) items) ∷ [])
    × (slice_get (spots_after before items) k ≡ Some (spot_of (before ++ take k items) item (drop (suc k) items)))
more_after before [] k item h e = absurd (omega arith)
more_after before (x ∷ items) zero item h e = (rw (append-nil before, e) refl, rw (append-nil before, e) refl)
more_after before (x ∷ items) (suc k) item h e =
    let rest = more_after (before ++ x ∷ []) items k item (omega arith) e in
    let front : (before ++ x ∷ []) ++ take k items ≡ before ++ (x ∷ take k items) = append_assoc before (x ∷ []) (take k items) in (
      ap (λ later. spot_of before x items ∷ later) (rest.0 ∙ ap (λ f. take k (spots_after (before ++ x ∷ []) items) ++ spot_of f item (drop (suc k) items) ∷ []) front),
      rest.1 ∙ ap (λ f. Some (spot_of f item (drop (suc k) items))) front,
    )

pub placed : {A : Type 0} (items : List A) (k : ℕ) (item : A) → k < length items → item ≡ get_or items k item → Placed items k item
placed items k item h e =
    let both = more_after [] items k item h e in
    record { more = rw add-one both.0; at = rw add-one both.1 }

-- an item of the code's list among the others
pub placed_item : (xs : List KnownItem) (k : ℕ) (x : KnownItem) → k < length xs → x ≡ get_or xs k x → Placed (map seen_item xs) k (seen_item x)
placed_item xs k x h e =
    let within : k < length (map seen_item xs) = omega (arith, h, length-map xs seen_item) in
    placed (map seen_item xs) k (seen_item x) within (ap seen_item e ∙ sym (get_or-map seen_item xs k x (seen_item x) h))

line_noted : {A : Type 0} (n : ℕ) (line : A → Line) (b : Bool) (x : A) → fault_where b n (line x) ≡ faults_at n (map line (if b then x ∷ [] else []))
line_noted n line true x = refl
line_noted n line false x = refl

-- one more is noted where it passes
pub noted_one : {A : Type 0} (n : ℕ) (line : A → Line) (test : A → Bool) (some : List A) (x : A) (old mid new : List Fault) → mid ≡ old ++ faults_at n (map line (filter test some))
    → new ≡ mid ++ fault_where (test x) n (line x) → new ≡ old ++ faults_at n (map line (filter test (some ++ x ∷ [])))
noted_one n line test some x old mid new m e =
    e ∙ ap (λ front. front ++ fault_where (test x) n (line x)) m ∙ ap (λ back. (old ++ faults_at n (map line (filter test some))) ++ back) (line_noted n line (test x) x)
    ∙ append_assoc old (faults_at n (map line (filter test some))) (faults_at n (map line (filter test (x ∷ []))))
    ∙ ap (λ back. old ++ back) (sym (map-append _ (map line (filter test some)) (map line (filter test (x ∷ []))))
    ∙ ap (faults_at n) (sym (map-append line (filter test some) (filter test (x ∷ []))) ∙ ap (map line) (sym (filter-append test some (x ∷ [])))))

pub length-spots_after : {A : Type 0} (before items : List A) → length (spots_after before items) ≡ length items
length-spots_after before [] = refl
length-spots_after before (x ∷ items) = ap suc (length-spots_after (before ++ x ∷ []) items)

-- after the last item
pub all_spots : (xs : List KnownItem) (k : ℕ) → length xs ≤ k → take k (spots (map seen_item xs)) ≡ spots (map seen_item xs)
all_spots xs k h = take_all k (spots (map seen_item xs)) (omega (arith, length-spots_after [] (map seen_item xs), length-map xs seen_item, h))

-- one more item is noted
pub noted_item : (n : ℕ) (test : Spot DataItem → Bool) (xs : List KnownItem) (k : ℕ) (x : KnownItem) (b : Bool) (old mid new : List Fault) → (p : Placed (map seen_item xs) k (seen_item x))
    → b ≡ test (spot_of (take k (map seen_item xs)) (seen_item x) (drop (k + 1) (map seen_item xs)))
    → mid ≡ old ++ faults_at n (map (λ spot. spot.item.row.line) (filter test (take k (spots (map seen_item xs)))))
    → new ≡ mid ++ fault_where b n x.row.line
    → new ≡ old ++ faults_at n (map (λ spot. spot.item.row.line) (filter test (take (k + 1) (spots (map seen_item xs)))))
noted_item n test xs k x b old mid new p t m e =
    let spot = spot_of (take k (map seen_item xs)) (seen_item x) (drop (k + 1) (map seen_item xs)) in
    rw p.more (noted_one n (λ (one : Spot DataItem). one.item.row.line) test (take k (spots (map seen_item xs))) spot old mid new m (e ∙ ap (λ c. mid ++ fault_where c n x.row.line) t))

-- ---- tests of a list in two parts

any_step : (a b c : Bool) → (a || (b || c)) ≡ ((a || b) || c)
any_step true b c = refl
any_step false b c = refl

pub any_parts : {A B : Type 0} (test : A → Bool) (f : B → A) (front : List A) (back : List B) → list_any test (front ++ map f back) ≡ (list_any test front || list_any (λ x. test (f x)) back)
any_parts test f [] [] = refl
any_parts test f [] (x ∷ back) = ap (λ b. test (f x) || b) (any_parts test f [] back)
any_parts test f (x ∷ front) back = ap (λ b. test x || b) (any_parts test f front back) ∙ any_step (test x) (list_any test front) (list_any (λ y. test (f y)) back)

-- Plans as they grow, row after row.
use Rattle.std.proofs.Common.{◌≡◌, ℕ, ◌+◌, ◌<◌, ◌≤◌, refl, sym, ◌∙◌, ap, subst, inl, inr, ◌⊎◌, Bool, true, false, not, ◌&&◌, ◌||◌, ◌==◌, Option, Some, List, [], ◌∷◌, ◌++◌, length, take, drop, get_or, append_assoc, append-nil}
use Rattle.std.specs.Prelude.{if◌then◌else◌, All}
use Rattle.std.specs.List.{list_all}
use Rattle.std.proofs.lemmas.List.{take_more, drop_all}
use Rattle.std.proofs.lemmas.List.Folds.{list_all-append}
use Rattle.std.proofs.lemmas.List.Elements.{All-push, All-append, All-nil, All-cons, All-head, All-tail}
use Rattle.data_layout.specs.Rows.{rank}
use Rattle.data_layout.specs.declared.layout.Layout.{Layout}
use Rattle.screen_rows.specs.declared.row.ScreenRow.{ScreenRow}
use Rattle.screen_rows.specs.declared.row.Content.{Content}
use Rattle.screen_layout.specs.declared.plan.Placed.{Placed}
use Rattle.screen_layout.specs.declared.plan.ScreenPlan.{ScreenPlan}
use Rattle.screen_layout.specs.declared.fault.ScreenFault.{ScreenFault}
use Rattle.screen_layout.specs.declared.fault.ScreenFault.TheVariants.{OffScreen, BadItem}
use Rattle.screen_layout.specs.declared.walk.ScreenWalk.{ScreenWalk}
use Rattle.screen_layout.specs.Placing.{level_fits, is_off_screen, is_start_off, place_of, end_after, end_of, begun, start_of}
use Rattle.screen_layout.specs.Plans.{IsPlacedIn, IsPlanOf}
use Rattle.screen_layout.specs.Outcome.{HasItems, ArePlans, IsPlaced, plan_of}
use Rattle.screen_rows.specs.Rows.{is_past_colours}
use Rattle.screen_layout.specs.ScreenFaults.{fault_where, row_faults, faults_after, screen_faults}
use Rattle.screen_layout.specs.Planned.{CanBePlaced, AreSound, with_items}
use Rattle.screen_layout.specs.Walk.{IsAfter}
use Rattle.screen_layout.proofs.JudgedScreens.{from_place}
use Rattle.screen_layout.proofs.ScreenGroups.{end_after-push}
use Rattle.screen_layout.proofs.KnownPlaces.{IsKnown, IsGoodStart, good_start, end_known, begun-known, no_item-known}
use Rattle.screen_layout.proofs.SoundItems.{fronts, backs, good_item}

-- ---- rows without a fault

no_fault : (b : Bool) (fault : ScreenFault) → fault_where b fault ≡ [] → b ≡ false
no_fault true fault h = cc
no_fault false fault h = refl

pub empty_parts : (a b : List ScreenFault) → a ++ b ≡ [] → (a ≡ []) × (b ≡ [])
empty_parts [] b h = (refl, h)
empty_parts (x ∷ a) b h = cc

neither : (a b : Bool) → (a || b) ≡ false → (a ≡ false) × (b ≡ false)
neither false false h = (refl, refl)
neither false true h = cc
neither true b h = cc

twice_not : (b : Bool) → not b ≡ false → b ≡ true
twice_not true h = refl
twice_not false h = cc

pub record Faultless (before : List ScreenRow) (row : ScreenRow) : Type 0 where
  pub off : is_off_screen before row ≡ false
  pub bad : row.bad ≡ false
  pub level : level_fits before row ≡ true

pub faultless_row : (before : List ScreenRow) (row : ScreenRow) → row_faults before row ≡ [] → Faultless before row
faultless_row before row h =
    let two = empty_parts (fault_where (is_off_screen before row) (OffScreen row.line)) (fault_where (row.bad || not (level_fits before row)) (BadItem row.line)) h in
    let one = neither row.bad (not (level_fits before row)) (no_fault (row.bad || not (level_fits before row)) (BadItem row.line) two.1) in
    record { off = no_fault (is_off_screen before row) (OffScreen row.line) two.0; bad = one.0; level = twice_not (level_fits before row) one.1 }

item_stays : (group off : Bool) → (not group && off) ≡ false → group ≡ false → off ≡ false
item_stays false off h e = h
item_stays true off h e = cc

-- ---- the state

-- with the items and plans of the rest these are the plans of all rows
abbrev pub GoOn : List ScreenRow → List Content → ℕ → List Content → List ScreenPlan → ScreenPlan → Type 0
GoOn rows contents i left first last = (later : List Placed) (others : List ScreenPlan) → ArePlans (take i rows) (drop i rows) left later others → ArePlans [] rows contents [] (first ++ with_items last later ∷ others)

-- nothing has begun, or a plan is there to go on with
abbrev pub State : List ScreenRow → List Content → ℕ → List Content → List ScreenPlan → Type 0
State rows contents i left plans =
    ((i ≡ 0) × (plans ≡ []) × (left ≡ contents)) ⊎ ((first : List ScreenPlan) × (last : ScreenPlan) × (plans ≡ first ++ last ∷ []) × GoOn rows contents i left first last)

pub record Planning (layout : Layout) (rows : List ScreenRow) (contents : List Content) (i : ℕ) (left : List Content) (walk : ScreenWalk) (plans : List ScreenPlan) : Type 0 where
  pub after : IsAfter (take i rows) walk
  pub is_known : IsKnown (end_after (take i rows))
  pub faultless : faults_after (take i rows) (drop i rows) ≡ []
  pub sound : AreSound layout (drop i rows) left
  pub front : list_all fronts (take i rows) ≡ true
  pub back : list_all backs (take i rows) ≡ true
  pub state : State rows contents i left plans
  pub fits : All (IsPlanOf layout) plans

pub planning_first : (layout : Layout) (rows : List ScreenRow) (contents left : List Content) (walk : ScreenWalk) (plans : List ScreenPlan) → left ≡ contents → plans ≡ [] → IsAfter [] walk
    → screen_faults rows ≡ [] → AreSound layout rows contents → Planning layout rows contents 0 left walk plans
planning_first layout rows contents left walk plans e p a f s = record {
  after = a;
  is_known = no_item-known;
  faultless = f;
  sound = rw e s;
  front = refl;
  back = refl;
  state = inl (refl, p, e);
  fits = rw p (All-nil (IsPlanOf layout));
}

-- ---- one more row

-- the plan that the row's item comes into
pub record Current (rows : List ScreenRow) (contents : List Content) (i : ℕ) (left : List Content) (row : ScreenRow) (content : Content) (plans : List ScreenPlan) : Type 0 where
  pub first : List ScreenPlan
  pub plan : ScreenPlan
  pub is_last : (if rank row.level == 1 then plans ++ plan_of content [] ∷ [] else plans) ≡ first ++ plan ∷ []
  pub goes : (own : List Placed) → HasItems row.group (take i rows) row content own → (later : List Placed) (others : List ScreenPlan) → ArePlans (take i rows ++ row ∷ []) (drop (i + 1) rows) left later others
      → ArePlans [] rows contents [] (first ++ with_items (with_items plan own) later ∷ others)

first_fits : (row : ScreenRow) → level_fits [] row ≡ true → (rank row.level == 1) ≡ true
first_fits row h = or_nothing (rank row.level == 1) h
  where
    or_nothing : (b : Bool) → (b || false || false) ≡ true → b ≡ true
    or_nothing true h = refl
    or_nothing false h = cc

with_none : (plan : ScreenPlan) → with_items plan [] ≡ plan
with_none plan = ap (λ xs. record { name = plan.name; items = xs }) (append-nil plan.items)

with_more : (plan : ScreenPlan) (a b : List Placed) → with_items plan (a ++ b) ≡ with_items (with_items plan a) b
with_more plan a b = ap (λ xs. record { name = plan.name; items = xs }) (sym (append_assoc plan.items a b))

begun_plan : (content : Content) (own later : List Placed) → with_items (with_items (plan_of content []) own) later ≡ plan_of content (own ++ later)
begun_plan content own later = refl

-- the first row
current_first : (rows : List ScreenRow) (contents : List Content) (i : ℕ) (left : List Content) (row : ScreenRow) (content : Content) (plans : List ScreenPlan)
    → (rank row.level == 1) ≡ true → drop i rows ≡ row ∷ drop (i + 1) rows → i ≡ 0 → plans ≡ [] → content ∷ left ≡ contents → Current rows contents i left row content plans
current_first rows contents i left row content plans e here z p c = record {
  first = [];
  plan = plan_of content [];
  is_last = rw (e, p) refl;
  goes = λ own has later others k.
      let whole : ArePlans (take i rows) (row ∷ drop (i + 1) rows) (content ∷ left) [] (plan_of content (own ++ later) ∷ others) = (own, later, others, has, k, rw e (refl, refl)) in
      let all : ArePlans (take i rows) (drop i rows) (content ∷ left) [] (plan_of content (own ++ later) ∷ others) = rw here whole in
      let start : ArePlans (take 0 rows) (drop 0 rows) (content ∷ left) [] (plan_of content (own ++ later) ∷ others) = subst (λ (n : ℕ). ArePlans (take n rows) (drop n rows) (content ∷ left) [] (plan_of content (own ++ later) ∷ others)) z all in
      subst (λ (xs : List Content). ArePlans [] rows xs [] (plan_of content (own ++ later) ∷ others)) c start;
}

-- a row of level 01 after others
current_next : (rows : List ScreenRow) (contents : List Content) (i : ℕ) (left : List Content) (row : ScreenRow) (content : Content) (plans first : List ScreenPlan) (last : ScreenPlan)
    → (rank row.level == 1) ≡ true → drop i rows ≡ row ∷ drop (i + 1) rows → plans ≡ first ++ last ∷ [] → GoOn rows contents i (content ∷ left) first last → Current rows contents i left row content plans
current_next rows contents i left row content plans first last e here p go = record {
  first = plans;
  plan = plan_of content [];
  is_last = rw e refl;
  goes = λ own has later others k.
      let whole : ArePlans (take i rows) (row ∷ drop (i + 1) rows) (content ∷ left) [] (plan_of content (own ++ later) ∷ others) = (own, later, others, has, k, rw e (refl, refl)) in
      let all : ArePlans [] rows contents [] (first ++ with_items last [] ∷ (plan_of content (own ++ later) ∷ others)) = go [] (plan_of content (own ++ later) ∷ others) (rw here whole) in
      let same : first ++ with_items last [] ∷ (plan_of content (own ++ later) ∷ others) ≡ plans ++ plan_of content (own ++ later) ∷ others =
      ap (λ x. first ++ x ∷ (plan_of content (own ++ later) ∷ others)) (with_none last) ∙ sym (append_assoc first (last ∷ []) (plan_of content (own ++ later) ∷ others)) ∙ ap (λ xs. xs ++ plan_of content (own ++ later) ∷ others) (sym p) in
      subst (λ (xs : List ScreenPlan). ArePlans [] rows contents [] xs) same all;
}

-- a row that goes on
current_same : (rows : List ScreenRow) (contents : List Content) (i : ℕ) (left : List Content) (row : ScreenRow) (content : Content) (plans first : List ScreenPlan) (last : ScreenPlan)
    → (rank row.level == 1) ≡ false → drop i rows ≡ row ∷ drop (i + 1) rows → plans ≡ first ++ last ∷ [] → GoOn rows contents i (content ∷ left) first last → Current rows contents i left row content plans
current_same rows contents i left row content plans first last e here p go = record {
  first = first;
  plan = last;
  is_last = rw e p;
  goes = λ own has later others k.
      let whole : ArePlans (take i rows) (row ∷ drop (i + 1) rows) (content ∷ left) (own ++ later) others = (own, later, others, has, k, rw e (refl, refl)) in
      let all : ArePlans [] rows contents [] (first ++ with_items last (own ++ later) ∷ others) = go (own ++ later) others (rw here whole) in
      subst (λ (x : ScreenPlan). ArePlans [] rows contents [] (first ++ x ∷ others)) (with_more last own later) all;
}

no_start : (rows : List ScreenRow) (i : ℕ) (row : ScreenRow) → i ≡ 0 → level_fits (take i rows) row ≡ true → (rank row.level == 1) ≡ true
no_start rows i row z h = first_fits row (ap (λ n. level_fits (take n rows) row) (sym z) ∙ h)

current_by : (b : Bool) (rows : List ScreenRow) (contents : List Content) (i : ℕ) (left : List Content) (row : ScreenRow) (content : Content) (plans : List ScreenPlan)
    → (rank row.level == 1) ≡ b → drop i rows ≡ row ∷ drop (i + 1) rows → level_fits (take i rows) row ≡ true → State rows contents i (content ∷ left) plans → Current rows contents i left row content plans
current_by b rows contents i left row content plans e here fits (inl (z, p, c)) = current_first rows contents i left row content plans (no_start rows i row z fits) here z p c
current_by true rows contents i left row content plans e here fits (inr (first, last, p, go)) = current_next rows contents i left row content plans first last e here p go
current_by false rows contents i left row content plans e here fits (inr (first, last, p, go)) = current_same rows contents i left row content plans first last e here p go

pub current : (rows : List ScreenRow) (contents : List Content) (i : ℕ) (left : List Content) (row : ScreenRow) (content : Content) (plans : List ScreenPlan)
    → drop i rows ≡ row ∷ drop (i + 1) rows → level_fits (take i rows) row ≡ true → State rows contents i (content ∷ left) plans → Current rows contents i left row content plans
current rows contents i left row content plans here fits state = current_by (rank row.level == 1) rows contents i left row content plans refl here fits state

-- ---- what holds of each plan

all_begun : (layout : Layout) (b : Bool) (plans : List ScreenPlan) (content : Content) → All (IsPlanOf layout) plans → All (IsPlanOf layout) (if b then plans ++ plan_of content [] ∷ [] else plans)
all_begun layout true plans content h = All-push (IsPlanOf layout) plans (plan_of content []) h (record { items = All-nil (IsPlacedIn layout) })
all_begun layout false plans content h = h

all_split : (layout : Layout) (first : List ScreenPlan) (plan : ScreenPlan) → All (IsPlanOf layout) (first ++ plan ∷ []) → All (IsPlanOf layout) first × IsPlanOf layout plan
all_split layout [] plan h = (All-nil (IsPlanOf layout), All-head (IsPlanOf layout) plan [] h)
all_split layout (one ∷ first) plan h =
    let rest = all_split layout first plan (All-tail (IsPlanOf layout) one (first ++ plan ∷ []) h) in
    (All-cons (IsPlanOf layout) one first (All-head (IsPlanOf layout) one (first ++ plan ∷ []) h) rest.0, rest.1)

own_fits : (layout : Layout) (b : Bool) (before : List ScreenRow) (row : ScreenRow) (content : Content) (own : List Placed) → (b ≡ false → (placed : Placed) → IsPlaced before row content placed → IsPlacedIn layout placed)
    → HasItems b before row content own → All (IsPlacedIn layout) own
own_fits layout true before row content own f h = rw h (All-nil (IsPlacedIn layout))
own_fits layout false before row content own f h = rw h.2 (All-cons (IsPlacedIn layout) h.0 [] (f refl h.0 h.1) (All-nil (IsPlacedIn layout)))

known_with : (b : Bool) (before : List ScreenRow) (row : ScreenRow) → IsKnown (end_after before) → (b ≡ false → (size : ℕ) × (row.size ≡ Some size) × (is_start_off (place_of before row) row.size ≡ false))
    → IsKnown (if b then begun (end_after before) row else end_of (start_of (begun (end_after before) row) before row) row.size)
known_with true before row k f = begun-known (end_after before) row k
known_with false before row k f =
    let off = f refl in
    let start = good_start (begun (end_after before) row) before row (begun-known (end_after before) row k) off.2 in
    let sized = subst (λ (s : Option ℕ). IsGoodStart (start_of (begun (end_after before) row) before row) s) off.1 start in
    subst (λ (s : Option ℕ). IsKnown (end_of (start_of (begun (end_after before) row) before row) s)) (sym off.1) (end_known (start_of (begun (end_after before) row) before row) off.0 sized)

one_stands : (colour : Option ℕ) → is_past_colours colour ≡ false → (not (is_past_colours colour) && true) ≡ true
one_stands colour h = rw h refl

pub planned_more : (layout : Layout) (rows : List ScreenRow) (contents : List Content) (i : ℕ) (d : ScreenRow) (content : Content) (left : List Content) (walk next : ScreenWalk) (plans begins ends : List ScreenPlan)
    → i < length rows → Planning layout rows contents i (content ∷ left) walk plans
    → begins ≡ (if rank (get_or rows i d).level == 1 then plans ++ plan_of content [] ∷ [] else plans)
    → ((before : List ScreenRow) (first : List ScreenPlan) (plan : ScreenPlan) → IsAfter before walk → ((get_or rows i d).group ≡ false → CanBePlaced before (get_or rows i d) content) → begins ≡ first ++ plan ∷ []
    → (own : List Placed) × HasItems (get_or rows i d).group before (get_or rows i d) content own × (ends ≡ first ++ with_items plan own ∷ []))
    → IsAfter (take i rows ++ get_or rows i d ∷ []) next → Planning layout rows contents (i + 1) left next ends
planned_more layout rows contents i d content left walk next plans begins ends h so e put after =
    let before = take i rows in
    let row = get_or rows i d in
    let here : drop i rows ≡ row ∷ drop (i + 1) rows = from_place rows i d h in
    let one : take (i + 1) rows ≡ before ++ row ∷ [] = take_more rows i d h in
    let none : faults_after before (row ∷ drop (i + 1) rows) ≡ [] = subst (λ (xs : List ScreenRow). faults_after before xs ≡ []) here so.faultless in
    let parts = empty_parts (row_faults before row) (faults_after (before ++ row ∷ []) (drop (i + 1) rows)) none in
    let good = faultless_row before row parts.0 in
    let sounds : AreSound layout (row ∷ drop (i + 1) rows) (content ∷ left) = subst (λ (xs : List ScreenRow). AreSound layout xs (content ∷ left)) here so.sound in
    let sound = sounds.0 good.bad in
    let front : list_all fronts (before ++ row ∷ []) ≡ true = list_all-append fronts before (row ∷ []) ∙ rw (so.front, one_stands row.own.look.front sound.front) refl in
    let back : list_all backs (before ++ row ∷ []) ≡ true = list_all-append backs before (row ∷ []) ∙ rw (so.back, one_stands row.own.look.back sound.back) refl in
    let off = λ (g : row.group ≡ false). item_stays row.group (is_start_off (place_of before row) row.size) good.off g in
    let item = λ (g : row.group ≡ false). good_item layout before row content so.is_known (off g) g sound front back in
    let now = current rows contents i left row content plans here good.level so.state in
    let made = put before now.first now.plan so.after (λ g. (item g).0) (e ∙ now.is_last) in
    let known = known_with row.group before row so.is_known (λ g. ((sound.cells g).0, (sound.cells g).1, off g)) in
    let firsts = all_split layout now.first now.plan (subst (λ (xs : List ScreenPlan). All (IsPlanOf layout) xs) now.is_last (all_begun layout (rank row.level == 1) plans content so.fits)) in
    let items : All (IsPlacedIn layout) (now.plan.items ++ made.0) = All-append (IsPlacedIn layout) now.plan.items made.0 firsts.1.items (own_fits layout row.group before row content made.0 (λ g. (item g).1) made.1) in
    record {
      after = rw one after;
      is_known = rw (one, end_after-push before row) known;
      faultless = rw one parts.1;
      sound = sounds.1;
      front = rw one front;
      back = rw one back;
      state = inr (now.first, with_items now.plan made.0, made.2, λ later others k. now.goes made.0 made.1 later others (subst (λ (xs : List ScreenRow). ArePlans xs (drop (i + 1) rows) left later others) one k));
      fits = rw made.2 (All-push (IsPlanOf layout) now.first (with_items now.plan made.0) firsts.0 (record { items = items }));
    }

-- all rows
planned_by : (rows : List ScreenRow) (contents : List Content) (i : ℕ) (left : List Content) (plans : List ScreenPlan) → drop i rows ≡ [] → State rows contents i left plans → ArePlans [] rows contents [] plans
planned_by rows contents i left plans over (inl (z, p, c)) =
    let none : rows ≡ [] = sym (ap (λ n. drop n rows) z) ∙ over in
    rw (none, p) (refl, refl)
planned_by rows contents i left plans over (inr (first, last, p, go)) =
    let all : ArePlans [] rows contents [] (first ++ with_items last [] ∷ []) = go [] [] (rw over (refl, refl)) in
    rw p (subst (λ (x : ScreenPlan). ArePlans [] rows contents [] (first ++ x ∷ [])) (with_none last) all)

pub planned_all : (layout : Layout) (rows : List ScreenRow) (contents : List Content) (i : ℕ) (left : List Content) (walk : ScreenWalk) (plans : List ScreenPlan) → length rows ≤ i → Planning layout rows contents i left walk plans
    → ArePlans [] rows contents [] plans × All (IsPlanOf layout) plans
planned_all layout rows contents i left walk plans h so = (planned_by rows contents i left plans (drop_all i rows h) so.state, so.fits)

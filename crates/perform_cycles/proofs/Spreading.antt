-- Marks that spread along arrows until none is new.
use Rattle.std.proofs.Common.{◌≡◌, ◌↔◌, ℕ, zero, suc, ◌+◌, ◌<◌, ◌≤◌, List, [], ◌∷◌, ◌++◌, length, get_or, ap, sym, refl, ◌∙◌, subst, arith, Bool, true, false, not, inl, inr}
use Rattle.std.specs.Prelude.{◌⊎◌, IsTrue, count_by}
use Rattle.std.proofs.lemmas.Bool.{cases_lt, false≢true}
use Rattle.std.proofs.lemmas.List.{get_or_append_left, get_or_push, get_or_past}
use Rattle.std.proofs.lemmas.List.Elements.{All-contains}
use Rattle.std.proofs.lemmas.List.Sums.{sum_by-cons}
use mathlib.Core.Bool.{cond}
use Rattle.perform_cycles.specs.declared.arrows.Arrow.{Arrow}
use Rattle.perform_cycles.specs.Cycles.{IsStep, Leads, by_one, further, IsOnCycle, AreWithin}
use Rattle.perform_cycles.specs.Plain.{IsMarked, IsSpread, AreFirst, AreReached}
use Rattle.perform_cycles.proofs.Marked.{one_more}

-- one more mark
pub push_marks : (P : ℕ → Type 0) (xs : List Bool) (n : ℕ) (b : Bool) → length xs ≡ n → ((k : ℕ) → k < n → IsTrue (get_or xs k false) ↔ P k)
    → (IsTrue b ↔ P n) → (k : ℕ) → k < n + 1 → IsTrue (get_or (xs ++ b ∷ []) k false) ↔ P k
push_marks P xs n b long before here k below = elim (cases_lt k n) as (λ _. IsTrue (get_or (xs ++ b ∷ []) k false) ↔ P k) [
  | inl less ↦ subst (λ v. IsTrue v ↔ P k) (sym (get_or_append_left xs (b ∷ []) false k (omega (arith, less, long)))) (before k less)
  | inr not_less ↦
      let same : n ≡ k = omega (arith, not_less, below) in
      subst (λ j. IsTrue (get_or (xs ++ b ∷ []) j false) ↔ P j) same (subst (λ v. IsTrue v ↔ P n) (sym (get_or_push xs b false n long)) here)
]

one_without : (ys : List Bool) → count_by not (false ∷ ys) ≡ 1 + count_by not ys
one_without ys = sum_by-cons (λ x. cond (not x) 1 0) false ys

-- more marks leave fewer paragraphs without one
pub fewer : (old new : List Bool) → length new ≡ length old → ((k : ℕ) → IsMarked old k → IsMarked new k) → (count_by not new < count_by not old) ⊎ (old ≡ new)
fewer [] [] same more = inr refl
fewer [] (y ∷ ys) same more = absurd (omega (arith, same))
fewer (x ∷ xs) [] same more = absurd (omega (arith, same))
fewer (true ∷ xs) (true ∷ ys) same more =
    elim (fewer xs ys (omega (arith, same)) (λ k. more (suc k))) as (λ _. (count_by not (true ∷ ys) < count_by not (true ∷ xs)) ⊎ (true ∷ xs ≡ true ∷ ys)) [
      | inl less ↦ inl (omega (arith, less))
      | inr equal ↦ inr (ap (λ l. true ∷ l) equal)
    ]
fewer (true ∷ xs) (false ∷ ys) same more = absurd (false≢true (more zero refl))
fewer (false ∷ xs) (true ∷ ys) same more =
    elim (fewer xs ys (omega (arith, same)) (λ k. more (suc k))) as (λ _. (count_by not (true ∷ ys) < count_by not (false ∷ xs)) ⊎ (false ∷ xs ≡ true ∷ ys)) [
      | inl less ↦ inl (omega (arith, less, one_without xs, one_without ys))
      | inr equal ↦ inl (omega (arith, ap (count_by not) equal, one_without xs))
    ]
fewer (false ∷ xs) (false ∷ ys) same more =
    elim (fewer xs ys (omega (arith, same)) (λ k. more (suc k))) as (λ _. (count_by not (false ∷ ys) < count_by not (false ∷ xs)) ⊎ (false ∷ xs ≡ false ∷ ys)) [
      | inl less ↦ inl (omega (arith, less, one_without xs, one_without ys))
      | inr equal ↦ inr (ap (λ l. false ∷ l) equal)
    ]

marked_within : (marks : List Bool) (k : ℕ) → IsMarked marks k → k < length marks
marked_within marks k set = elim (cases_lt k (length marks)) as (λ _. k < length marks) [
  | inl less ↦ less
  | inr past ↦ absurd (false≢true (sym (get_or_past marks k false past) ∙ set))
]

module _ (count : ℕ) (arrows : List Arrow) (within : AreWithin count arrows) where
  step_within : {here there : ℕ} → IsStep arrows here there → there < count
  step_within step = omega (arith, step.not_after, (All-contains (λ arrow. (arrow.from < count) × (arrow.last < count)) arrows step.arrow within step.among).1)

  pub first_reached : (here : ℕ) (marks : List Bool) → AreFirst count arrows here marks → AreReached count arrows here marks
  first_reached here marks first = record {
    same = first.same;
    led = λ there set. by_one ((first.set there (omega (arith, marked_within marks there set, first.same))).0 set);
    first = λ there below step. (first.set there below).1 step;
  }

  -- what was marked stays marked
  pub stays : (marks next : List Bool) → IsSpread arrows marks next → (k : ℕ) → IsMarked marks k → IsMarked next k
  stays marks next spread k set = (spread.marks k (marked_within marks k set)).1 (inl set)

  pub more_reached : (here : ℕ) (marks next : List Bool) → AreReached count arrows here marks → IsSpread arrows marks next → AreReached count arrows here next
  more_reached here marks next reached spread = record {
    same = spread.same ∙ reached.same;
    led = λ there set. elim ((spread.marks there (omega (arith, marked_within next there set, spread.same))).0 set) as (λ _. Leads arrows here there) [
      | inl old ↦ reached.led there old
      | inr new ↦ one_more (reached.led new.here new.marked) new.step
    ];
    first = λ there below step. stays marks next spread there (reached.first there below step);
  }

  module _ (here : ℕ) (marks : List Bool) (reached : AreReached count arrows here marks) (spread : IsSpread arrows marks marks) where
    closed : {a b : ℕ} → IsMarked marks a → IsStep arrows a b → IsMarked marks b
    closed {a = a} {b = b} set step = (spread.marks b (omega (arith, step_within step, reached.same))).1 (inr (record { here = a; marked = set; step = step }))

    goes : {a b : ℕ} → Leads arrows a b → IsMarked marks a → IsMarked marks b
    goes (by_one step) set = closed set step
    goes (further step rest) set = goes rest (closed set step)

    starts : {b : ℕ} → Leads arrows here b → IsMarked marks b
    starts {b = b} (by_one step) = reached.first b (step_within step) step
    starts (further {between = between} step rest) = goes rest (reached.first between (step_within step) step)

    pub back_is : IsMarked marks here ↔ IsOnCycle arrows here
    back_is = (reached.led here, (λ path. starts path))

-- where no fewer are without a mark, no mark is new
pub none_new : (arrows : List Arrow) (marks next : List Bool) → IsSpread arrows marks next → ((k : ℕ) → IsMarked marks k → IsMarked next k) → count_by not marks ≤ count_by not next → IsSpread arrows marks marks
none_new arrows marks next spread more left = elim (fewer marks next spread.same more) as (λ _. IsSpread arrows marks marks) [
  | inl less ↦ absurd (omega (arith, less, left))
  | inr equal ↦ subst (IsSpread arrows marks) (sym equal) spread
]

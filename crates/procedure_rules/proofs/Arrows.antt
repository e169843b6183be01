-- The arrows of paragraphs and the lines of those that are marked.
use Rattle.std.proofs.Common.{◌≡◌, ◌∙◌, inl, inr, refl, sym, ap, subst, arith, ℕ, ◌+◌, ◌<◌, ◌≤◌, Bool, true, false, List, [], ◌∷◌, ◌++◌, append_assoc, append-nil, length, take, get_or, Option, Some, None}
use Rattle.std.specs.Prelude.{if◌then◌else◌, slice_index_or, unwrap_or, IsTrue, ◌↔◌}
use Rattle.std.specs.List.{flat_map, AllByRecursion}
use Rattle.std.proofs.lemmas.List.{take_more, take_all, length-take-le, map-append}
use Rattle.std.proofs.lemmas.List.Elements.{All-from_recursion}
use Rattle.std.proofs.lemmas.Grind.{flat_map-append}
use Rattle.cob_base.specs.declared.line.Line.{Line}
use Rattle.cob_base.specs.declared.paragraphs.Paragraph.{Paragraph}
use Rattle.cob_base.specs.declared.statements.Located.{Located}
use Rattle.cob_base.specs.declared.statements.Statement.{Statement}
use Rattle.name_rules.specs.declared.fault.Fault.{Fault}
use Rattle.name_rules.specs.Faults.{faults_at, fault_where}
use Rattle.perform_cycles.specs.declared.arrows.Arrow.{Arrow}
use Rattle.perform_cycles.specs.Cycles.{IsOnCycle, AreWithin, AreMarks}
use Rattle.statement_parts.specs.Statements.{in_paragraph}
use Rattle.procedure_names.specs.Names.{paragraph_named}
use Rattle.procedure_rules.specs.Performed.{arrow_between, arrow_to, arrow_of, range_of, arrows_from, arrows, AreOnCycles, AreCycleLines}
use Rattle.procedure_rules.specs.SeenMarks.{marked_from}
use Rattle.procedure_names.proofs.FirstOf.{position_within}
use Rattle.procedure_names.proofs.Noted.{one_noted}

-- those of one more
pub listed_more : {A B : Type 0} (f : A → List B) (xs : List A) (at : ℕ) (x : A) (old mid new : List B) → at < length xs → x ≡ get_or xs at x → mid ≡ old ++ flat_map f (take at xs) → new ≡ mid ++ f x
    → new ≡ old ++ flat_map f (take (at + 1) xs)
listed_more f xs at x old mid new h e m k =
    let more : take (at + 1) xs ≡ take at xs ++ x ∷ [] = take_more xs at x h ∙ ap (λ y. take at xs ++ y ∷ []) (sym e) in
    let lists : flat_map f (take (at + 1) xs) ≡ flat_map f (take at xs) ++ f x =
    ap (flat_map f) more ∙ flat_map-append f (take at xs) (x ∷ []) ∙ ap (λ back. flat_map f (take at xs) ++ back) (append-nil (f x)) in
    k ∙ ap (λ front. front ++ f x) m ∙ append_assoc old (flat_map f (take at xs)) (f x) ∙ ap (λ back. old ++ back) (sym lists)

pub listed_all : {A B : Type 0} (f : A → List B) (xs : List A) (at : ℕ) (old new : List B) → length xs ≤ at → new ≡ old ++ flat_map f (take at xs) → new ≡ old ++ flat_map f xs
listed_all f xs at old new h e = e ∙ ap (λ some. old ++ flat_map f some) (take_all at xs h)

abbrev pub arrows_in : List Paragraph → ℕ → Paragraph → List Arrow
arrows_in all here paragraph = flat_map (λ (one : Located Statement). arrow_of all here one.item) (in_paragraph paragraph)

-- one more paragraph
pub arrows_from-push : (all : List Paragraph) (n : ℕ) (xs : List Paragraph) (x : Paragraph) → arrows_from all n (xs ++ x ∷ []) ≡ arrows_from all n xs ++ arrows_in all (n + length xs) x
arrows_from-push all n [] x = let here : n ≡ n + 0 = omega arith in append-nil (arrows_in all n x) ∙ ap (λ k. arrows_in all k x) here
arrows_from-push all n (y ∷ xs) x =
    let here : (n + 1) + length xs ≡ n + length (y ∷ xs) = omega arith in
    ap (λ back. arrows_in all n y ++ back) (arrows_from-push all (n + 1) xs x ∙ ap (λ k. arrows_from all (n + 1) xs ++ arrows_in all k x) here)
    ∙ sym (append_assoc (arrows_in all n y) (arrows_from all (n + 1) xs) (arrows_in all (n + length (y ∷ xs)) x))

pub arrows_more : (all xs : List Paragraph) (at : ℕ) (x : Paragraph) (mid new : List Arrow) → at < length xs → x ≡ get_or xs at x → mid ≡ arrows_from all 0 (take at xs) → new ≡ mid ++ arrows_in all at x
    → new ≡ arrows_from all 0 (take (at + 1) xs)
arrows_more all xs at x mid new h e m k =
    let more : take (at + 1) xs ≡ take at xs ++ x ∷ [] = take_more xs at x h ∙ ap (λ y. take at xs ++ y ∷ []) (sym e) in
    let within : at ≤ length xs = omega arith in
    let count : at ≡ 0 + length (take at xs) = omega (arith, length-take-le at xs within) in
    k ∙ ap (λ front. front ++ arrows_in all at x) m ∙ ap (λ n. arrows_from all 0 (take at xs) ++ arrows_in all n x) count
    ∙ sym (arrows_from-push all 0 (take at xs) x) ∙ ap (arrows_from all 0) (sym more)

-- ---- arrows go between paragraphs

abbrev IsWithin : ℕ → Arrow → Type 0
IsWithin count arrow = (arrow.from < count) × (arrow.last < count)

within_between : (count here : ℕ) (first last : Option ℕ) → here < count → ((k : ℕ) → last ≡ Some k → k < count) → AllByRecursion (IsWithin count) (arrow_between here first last)
within_between count here None last h l = tt
within_between count here (Some first) None h l = tt
within_between count here (Some first) (Some last) h l = ((h, l last refl), tt)

within_to : (all : List Paragraph) (here : ℕ) (range : Option (List ℕ × Option (List ℕ))) → here < length all → AllByRecursion (IsWithin (length all)) (arrow_to all here range)
within_to all here None h = tt
within_to all here (Some range) h =
    within_between (length all) here (paragraph_named all range.0) (paragraph_named all (unwrap_or range.1 range.0)) h (λ k e. position_within _ all k e)

all_both : {A : Type 0} (P : A → Type 0) (xs ys : List A) → AllByRecursion P xs → AllByRecursion P ys → AllByRecursion P (xs ++ ys)
all_both P [] ys h k = k
all_both P (x ∷ xs) ys h k = (h.0, all_both P xs ys h.1 k)

within_some : (all : List Paragraph) (here : ℕ) (statements : List (Located Statement)) → here < length all → AllByRecursion (IsWithin (length all)) (flat_map (λ one. arrow_of all here one.item) statements)
within_some all here [] h = tt
within_some all here (one ∷ statements) h = all_both (IsWithin (length all)) _ _ (within_to all here (range_of one.item) h) (within_some all here statements h)

within_from : (all : List Paragraph) (n : ℕ) (xs : List Paragraph) → n + length xs ≤ length all → AllByRecursion (IsWithin (length all)) (arrows_from all n xs)
within_from all n [] h = tt
within_from all n (x ∷ xs) h = all_both (IsWithin (length all)) _ _ (within_some all n (in_paragraph x) (omega arith)) (within_from all (n + 1) xs (omega arith))

pub arrows_within : (all : List Paragraph) → AreWithin (length all) (arrows all)
arrows_within all = All-from_recursion (IsWithin (length all)) (arrows all) (within_from all 0 all (omega arith))

-- ---- marks

marked_step : (b : Bool) (line : Line) (rest more last : List Line) → more ≡ rest ++ last → (if b then line ∷ more else more) ≡ (if b then line ∷ rest else rest) ++ last
marked_step true line rest more last e = ap (λ lines. line ∷ lines) e
marked_step false line rest more last e = e

pub marked_from-push : (marks : List Bool) (n : ℕ) (xs : List Paragraph) (x : Paragraph)
    → marked_from marks n (xs ++ x ∷ []) ≡ marked_from marks n xs ++ (if slice_index_or marks (n + length xs) false then x.line ∷ [] else [])
marked_from-push marks n [] x = let here : n ≡ n + 0 = omega arith in ap (λ (k : ℕ). if slice_index_or marks k false then x.line ∷ [] else []) here
marked_from-push marks n (y ∷ xs) x =
    let here : (n + 1) + length xs ≡ n + length (y ∷ xs) = omega arith in
    marked_step (slice_index_or marks n false) y.line (marked_from marks (n + 1) xs) _ _
    (marked_from-push marks (n + 1) xs x ∙ ap (λ (k : ℕ). marked_from marks (n + 1) xs ++ (if slice_index_or marks k false then x.line ∷ [] else [])) here)

pub on_cycles_from : (those : List Arrow) (marks : List Bool) (n : ℕ) (xs : List Paragraph) → ((k : ℕ) → k < n + length xs → IsTrue (slice_index_or marks k false) ↔ IsOnCycle those k)
    → AreOnCycles those n xs (marked_from marks n xs)
on_cycles_from those marks n [] h = refl
on_cycles_from those marks n (x ∷ xs) h =
    let rest : (k : ℕ) → k < (n + 1) + length xs → IsTrue (slice_index_or marks k false) ↔ IsOnCycle those k = λ k l. h k (omega arith) in
    by_mark (slice_index_or marks n false) (marked_from marks (n + 1) xs) (h n (omega arith)) (on_cycles_from those marks (n + 1) xs rest)
  where
    by_mark : (b : Bool) (lines : List Line) → (IsTrue b ↔ IsOnCycle those n) → AreOnCycles those (n + 1) xs lines → AreOnCycles those n (x ∷ xs) (if b then x.line ∷ lines else lines)
    by_mark true lines m o = inl (m.0 refl, (lines, refl, o))
    by_mark false lines m o = inr ((λ on. let e = m.1 on in cc e), o)

pub cycle_lines : (all : List Paragraph) (marks : List Bool) → AreMarks (length all) (arrows all) marks → AreCycleLines all (marked_from marks 0 all)
cycle_lines all marks h = on_cycles_from (arrows all) marks 0 all (λ k l. h.set k (omega arith))

-- the same, by what the code holds of these
pub cycles_within : (all some : List Paragraph) (made : List Arrow) → some ≡ all → made ≡ arrows_from all 0 some → AreWithin (length some) made
cycles_within all some made e h =
    subst (λ (xs : List Paragraph). AreWithin (length xs) made) (sym e) (subst (AreWithin (length all)) (sym (h ∙ ap (arrows_from all 0) e)) (arrows_within all))

pub cycles_told : (all some : List Paragraph) (made : List Arrow) (found marks : List Bool) → some ≡ all → made ≡ arrows_from all 0 some → AreMarks (length some) made found → marks ≡ found
    → AreCycleLines all (marked_from marks 0 some)
cycles_told all some made found marks e h k m =
    let marked = subst (λ (xs : List Paragraph). AreMarks (length xs) made found) e k in
    let told = cycle_lines all found (subst (λ (some_arrows : List Arrow). AreMarks (length all) some_arrows found) (h ∙ ap (arrows_from all 0) e) marked) in
    subst (λ (xs : List Paragraph). AreCycleLines all (marked_from marks 0 xs)) (sym e) (subst (λ (bits : List Bool). AreCycleLines all (marked_from bits 0 all)) (sym m) told)

-- ---- faults at marks

-- one more is noted where it is marked
pub marked_more : (marks : List Bool) (xs : List Paragraph) (at : ℕ) (x : Paragraph) (b : Bool) (old mid new : List Fault) → at < length xs → x ≡ get_or xs at x → b ≡ slice_index_or marks at false
    → mid ≡ old ++ faults_at 8 (marked_from marks 0 (take at xs)) → new ≡ mid ++ fault_where b 8 x.line → new ≡ old ++ faults_at 8 (marked_from marks 0 (take (at + 1) xs))
marked_more marks xs at x b old mid new h e t m k =
    let some = take at xs in
    let more : take (at + 1) xs ≡ some ++ x ∷ [] = take_more xs at x h ∙ ap (λ y. some ++ y ∷ []) (sym e) in
    let within : at ≤ length xs = omega arith in
    let count : at ≡ 0 + length some = omega (arith, length-take-le at xs within) in
    let last : List Line = if slice_index_or marks (0 + length some) false then x.line ∷ [] else [] in
    let told : fault_where b 8 x.line ≡ faults_at 8 last = one_noted 8 b x.line ∙ ap (λ c. faults_at 8 (if c then x.line ∷ [] else [])) (t ∙ ap (λ n. slice_index_or marks n false) count) in
    k ∙ ap (λ front. front ++ fault_where b 8 x.line) m ∙ ap (λ back. (old ++ faults_at 8 (marked_from marks 0 some)) ++ back) told
    ∙ append_assoc old (faults_at 8 (marked_from marks 0 some)) (faults_at 8 last) ∙ ap (λ back. old ++ back) (sym (map-append _ (marked_from marks 0 some) last))
    ∙ ap (λ lines. old ++ faults_at 8 lines) (sym (ap (marked_from marks 0) more ∙ marked_from-push marks 0 some x))

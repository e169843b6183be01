-- Faults that are noted one after another.
use Rattle.std.proofs.Common.{◌≡◌, ◌∙◌, refl, sym, ap, ℕ, ◌+◌, ◌<◌, ◌≤◌, Bool, true, false, List, [], ◌∷◌, ◌++◌, append_assoc, append-nil, map, length, take, get_or}
use Rattle.std.specs.Prelude.{if◌then◌else◌, filter}
use Rattle.std.specs.List.{flat_map}
use Rattle.std.proofs.lemmas.List.{take_more, take_all, map-append}
use Rattle.std.proofs.lemmas.List.Elements.{filter-append}
use Rattle.std.proofs.lemmas.Grind.{flat_map-append}
use Rattle.cob_base.specs.declared.line.Line.{Line}
use Rattle.data_names.specs.Spots.{Spot, spots_after, spot_of}
use Rattle.name_rules.specs.declared.fault.Fault.{Fault}
use Rattle.name_rules.specs.Faults.{faults_at, fault_where}

line_noted : {A : Type 0} (n : ℕ) (line : A → Line) (b : Bool) (x : A) → fault_where b n (line x) ≡ faults_at n (map line (if b then x ∷ [] else []))
line_noted n line true x = refl
line_noted n line false x = refl

pub noted_one : {A : Type 0} (n : ℕ) (line : A → Line) (test : A → Bool) (some : List A) (x : A) (old mid new : List Fault) → mid ≡ old ++ faults_at n (map line (filter test some))
    → new ≡ mid ++ fault_where (test x) n (line x) → new ≡ old ++ faults_at n (map line (filter test (some ++ x ∷ [])))
noted_one n line test some x old mid new m e =
    e ∙ ap (λ front. front ++ fault_where (test x) n (line x)) m ∙ ap (λ back. (old ++ faults_at n (map line (filter test some))) ++ back) (line_noted n line (test x) x)
    ∙ append_assoc old (faults_at n (map line (filter test some))) (faults_at n (map line (filter test (x ∷ []))))
    ∙ ap (λ back. old ++ back) (sym (map-append _ (map line (filter test some)) (map line (filter test (x ∷ []))))
    ∙ ap (faults_at n) (sym (map-append line (filter test some) (filter test (x ∷ []))) ∙ ap (map line) (sym (filter-append test some (x ∷ [])))))

pub noted_twice : (n : ℕ) (a b : List Line) (old mid new : List Fault) → mid ≡ old ++ faults_at n a → new ≡ mid ++ faults_at n b → new ≡ old ++ faults_at n (a ++ b)
noted_twice n a b old mid new e h =
    h ∙ ap (λ front. front ++ faults_at n b) e ∙ append_assoc old (faults_at n a) (faults_at n b) ∙ ap (λ back. old ++ back) (sym (map-append (λ (line : Line). record { line = line; reason = n }) a b))

-- one more is noted where it passes
pub noted_more : {A : Type 0} (n : ℕ) (line : A → Line) (test : A → Bool) (xs : List A) (at : ℕ) (x : A) (b : Bool) (old mid new : List Fault) → at < length xs → x ≡ get_or xs at x → b ≡ test x
    → mid ≡ old ++ faults_at n (map line (filter test (take at xs))) → new ≡ mid ++ fault_where b n (line x) → new ≡ old ++ faults_at n (map line (filter test (take (at + 1) xs)))
noted_more n line test xs at x b old mid new h e t m k =
    let more : take (at + 1) xs ≡ take at xs ++ x ∷ [] = take_more xs at x h ∙ ap (λ y. take at xs ++ y ∷ []) (sym e) in
    noted_one n line test (take at xs) x old mid new m (k ∙ ap (λ c. mid ++ fault_where c n (line x)) t) ∙ ap (λ some. old ++ faults_at n (map line (filter test some))) (sym more)

-- after the last one
pub noted_all : {A : Type 0} (n : ℕ) (line : A → Line) (test : A → Bool) (xs : List A) (at : ℕ) (old new : List Fault) → length xs ≤ at
    → new ≡ old ++ faults_at n (map line (filter test (take at xs))) → new ≡ old ++ faults_at n (map line (filter test xs))
noted_all n line test xs at old new h e = e ∙ ap (λ some. old ++ faults_at n (map line (filter test some))) (take_all at xs h)

-- a list that was noted in two parts
pub noted_parts : {A : Type 0} (n : ℕ) (line : A → Line) (test : A → Bool) (xs ys : List A) (old mid new : List Fault) → mid ≡ old ++ faults_at n (map line (filter test xs))
    → new ≡ mid ++ faults_at n (map line (filter test ys)) → new ≡ old ++ faults_at n (map line (filter test (xs ++ ys)))
noted_parts n line test xs ys old mid new m k =
    noted_twice n (map line (filter test xs)) (map line (filter test ys)) old mid new m k
    ∙ ap (λ lines. old ++ faults_at n lines) (sym (ap (map line) (filter-append test xs ys) ∙ map-append line (filter test xs) (filter test ys)))

-- ---- lines that hang on what came before

-- the lines of those that pass, by those before them
abbrev pub tested_after : {A : Type 0} → (A → Line) → (List A → A → Bool) → List A → List A → List Line
tested_after line test before [] = []
tested_after line test before (x ∷ xs) = (if test before x then line x ∷ [] else []) ++ tested_after line test (before ++ x ∷ []) xs

picked : {S : Type 0} (f : S → Line) (b : Bool) (x : S) (xs : List S) → map f (if b then x ∷ xs else xs) ≡ (if b then f x ∷ [] else []) ++ map f xs
picked f true x xs = refl
picked f false x xs = refl

pub tested_spots : {A : Type 0} (line : A → Line) (test : List A → A → Bool) (before xs : List A)
    → map (λ spot. line spot.item) (filter (λ spot. test spot.before spot.item) (spots_after before xs)) ≡ tested_after line test before xs
tested_spots line test before [] = refl
tested_spots line test before (x ∷ xs) =
    picked (λ (spot : Spot _). line spot.item) (test before x) (spot_of before x xs) (filter (λ (spot : Spot _). test spot.before spot.item) (spots_after (before ++ x ∷ []) xs))
    ∙ ap (λ later. (if test before x then line x ∷ [] else []) ++ later) (tested_spots line test (before ++ x ∷ []) xs)

tested_snoc : {A : Type 0} (line : A → Line) (test : List A → A → Bool) (before xs : List A) (x : A)
    → tested_after line test before (xs ++ x ∷ []) ≡ tested_after line test before xs ++ (if test (before ++ xs) x then line x ∷ [] else [])
tested_snoc line test before [] x =
    append-nil (if test before x then line x ∷ [] else []) ∙ ap (λ some. if test some x then line x ∷ [] else []) (sym (append-nil before))
tested_snoc line test before (y ∷ xs) x =
    ap (λ later. (if test before y then line y ∷ [] else []) ++ later)
    (tested_snoc line test (before ++ y ∷ []) xs x
    ∙ ap (λ some. tested_after line test (before ++ y ∷ []) xs ++ (if test some x then line x ∷ [] else [])) (append_assoc before (y ∷ []) xs))
    ∙ sym (append_assoc (if test before y then line y ∷ [] else []) (tested_after line test (before ++ y ∷ []) xs) (if test (before ++ (y ∷ xs)) x then line x ∷ [] else []))

pub one_noted : (n : ℕ) (b : Bool) (line : Line) → fault_where b n line ≡ faults_at n (if b then line ∷ [] else [])
one_noted n true line = refl
one_noted n false line = refl

-- one more is noted
pub tested_more : {A : Type 0} (n : ℕ) (line : A → Line) (test : List A → A → Bool) (xs : List A) (at : ℕ) (x : A) (b : Bool) (old mid new : List Fault) → at < length xs → x ≡ get_or xs at x → b ≡ test (take at xs) x
    → mid ≡ old ++ faults_at n (tested_after line test [] (take at xs)) → new ≡ mid ++ fault_where b n (line x) → new ≡ old ++ faults_at n (tested_after line test [] (take (at + 1) xs))
tested_more n line test xs at x b old mid new h e t m k =
    let some = take at xs in
    let more : take (at + 1) xs ≡ some ++ x ∷ [] = take_more xs at x h ∙ ap (λ y. some ++ y ∷ []) (sym e) in
    k ∙ ap (λ front. front ++ fault_where b n (line x)) m
    ∙ ap (λ back. (old ++ faults_at n (tested_after line test [] some)) ++ back) (one_noted n b (line x) ∙ ap (λ c. faults_at n (if c then line x ∷ [] else [])) t)
    ∙ append_assoc old (faults_at n (tested_after line test [] some)) (faults_at n (if test some x then line x ∷ [] else []))
    ∙ ap (λ back. old ++ back) (sym (map-append _ (tested_after line test [] some) (if test some x then line x ∷ [] else [])))
    ∙ ap (λ lines. old ++ faults_at n lines) (sym (tested_snoc line test [] some x) ∙ sym (ap (tested_after line test []) more))

-- ---- lists of lines

-- those of one more
pub lines_more : {A : Type 0} (n : ℕ) (f : A → List Line) (xs : List A) (at : ℕ) (x : A) (old mid new : List Fault) → at < length xs → x ≡ get_or xs at x → mid ≡ old ++ faults_at n (flat_map f (take at xs)) → new ≡ mid ++ faults_at n (f x)
    → new ≡ old ++ faults_at n (flat_map f (take (at + 1) xs))
lines_more n f xs at x old mid new h e m k =
    let more : take (at + 1) xs ≡ take at xs ++ x ∷ [] = take_more xs at x h ∙ ap (λ y. take at xs ++ y ∷ []) (sym e) in
    let lists : flat_map f (take (at + 1) xs) ≡ flat_map f (take at xs) ++ f x =
    ap (flat_map f) more ∙ flat_map-append f (take at xs) (x ∷ []) ∙ ap (λ back. flat_map f (take at xs) ++ back) (append-nil (f x)) in
    noted_twice n (flat_map f (take at xs)) (f x) old mid new m k ∙ ap (λ lines. old ++ faults_at n lines) (sym lists)

pub lines_all : {A : Type 0} (n : ℕ) (f : A → List Line) (xs : List A) (at : ℕ) (old new : List Fault) → length xs ≤ at → new ≡ old ++ faults_at n (flat_map f (take at xs)) → new ≡ old ++ faults_at n (flat_map f xs)
lines_all n f xs at old new h e = e ∙ ap (λ some. old ++ faults_at n (flat_map f some)) (take_all at xs h)

-- lines of lists, one list after another
pub lines_of_lists : {A B : Type 0} (line : B → Line) (test : B → Bool) (f : A → List B) (xs : List A) → flat_map (λ x. map line (filter test (f x))) xs ≡ map line (filter test (flat_map f xs))
lines_of_lists line test f [] = refl
lines_of_lists line test f (x ∷ xs) =
    ap (λ back. map line (filter test (f x)) ++ back) (lines_of_lists line test f xs)
    ∙ sym (ap (map line) (filter-append test (f x) (flat_map f xs)) ∙ map-append line (filter test (f x)) (filter test (flat_map f xs)))

-- ---- parts of all faults

pub four_parts : (a b c d x y z u v : List Fault) → y ≡ x ++ a → z ≡ y ++ b → u ≡ z ++ c → v ≡ u ++ d → v ≡ (((x ++ a) ++ b) ++ c) ++ d
four_parts a b c d x y z u v e f g h = h ∙ ap (λ some. some ++ d) (g ∙ ap (λ some. some ++ c) (f ∙ ap (λ some. some ++ b) e))

pub ten_parts : (a b c d e f g h i j x y z u v : List Fault) → y ≡ (((x ++ a) ++ b) ++ c) ++ d → z ≡ (((y ++ e) ++ f) ++ g) ++ h → u ≡ z ++ i → v ≡ u ++ j
    → v ≡ x ++ (((((((((a ++ b) ++ c) ++ d) ++ e) ++ f) ++ g) ++ h) ++ i) ++ j)
ten_parts a b c d e f g h i j x y z u v p q r s = rw (s, r, q, p) (simp append_assoc refl)

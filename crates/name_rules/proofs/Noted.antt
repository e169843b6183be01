-- Faults of entries, one after another.
use Rattle.std.proofs.Common.{◌≡◌, ◌∙◌, sym, ap, ℕ, ◌+◌, ◌<◌, ◌≤◌, Bool, List, [], ◌∷◌, ◌++◌, map, length, take, get_or, append_assoc}
use Rattle.std.specs.Prelude.{filter}
use Rattle.std.proofs.lemmas.List.{take_more, take_all, map-append}
use Rattle.std.proofs.lemmas.List.Elements.{filter-append}
use Rattle.cob_base.specs.declared.line.Line.{Line}
use Rattle.name_rules.specs.declared.fault.Fault.{Fault}
use Rattle.name_rules.specs.Faults.{faults_at, fault_where}
use Rattle.name_rules.proofs.SpotsOf.{noted_one}

-- lists of lines noted one after another
pub noted_twice : (n : ℕ) (a b : List Line) (old mid new : List Fault) → mid ≡ old ++ faults_at n a → new ≡ mid ++ faults_at n b → new ≡ old ++ faults_at n (a ++ b)
noted_twice n a b old mid new e h =
    h ∙ ap (λ front. front ++ faults_at n b) e ∙ append_assoc old (faults_at n a) (faults_at n b) ∙ ap (λ back. old ++ back) (sym (map-append (λ (line : Line). record { line = line; reason = n }) a b))

-- one more is noted where it passes
pub noted_more : {A : Type 0} (n : ℕ) (line : A → Line) (test : A → Bool) (xs : List A) (at : ℕ) (x : A) (b : Bool) (old mid new : List Fault) → at < length xs → x ≡ get_or xs at x → b ≡ test x
    → mid ≡ old ++ faults_at n (map line (filter test (take at xs))) → new ≡ mid ++ fault_where b n (line x) → new ≡ old ++ faults_at n (map line (filter test (take (at + 1) xs)))
noted_more n line test xs at x b old mid new h e t m k =
    let more : take (at + 1) xs ≡ take at xs ++ x ∷ [] = take_more xs at x h ∙ ap (λ y. take at xs ++ y ∷ []) (sym e) in
    noted_one n line test (take at xs) x old mid new m (k ∙ ap (λ c. mid ++ fault_where c n (line x)) t) ∙ ap (λ some. old ++ faults_at n (map line (filter test some))) (sym more)

-- after the last one
pub noted_all : {A : Type 0} (n : ℕ) (line : A → Line) (test : A → Bool) (xs : List A) (at : ℕ) (old new : List Fault) → length xs ≤ at
    → new ≡ old ++ faults_at n (map line (filter test (take at xs))) → new ≡ old ++ faults_at n (map line (filter test xs))
noted_all n line test xs at old new h e = e ∙ ap (λ some. old ++ faults_at n (map line (filter test some))) (take_all at xs h)

-- a list that was noted in two parts
pub noted_parts : {A : Type 0} (n : ℕ) (line : A → Line) (test : A → Bool) (xs ys : List A) (old mid new : List Fault) → mid ≡ old ++ faults_at n (map line (filter test xs))
    → new ≡ mid ++ faults_at n (map line (filter test ys)) → new ≡ old ++ faults_at n (map line (filter test (xs ++ ys)))
noted_parts n line test xs ys old mid new m k =
    noted_twice n (map line (filter test xs)) (map line (filter test ys)) old mid new m k
    ∙ ap (λ lines. old ++ faults_at n lines) (sym (ap (map line) (filter-append test xs ys) ∙ map-append line (filter test xs) (filter test ys)))

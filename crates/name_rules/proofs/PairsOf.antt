-- Sets whose keys are a number and bytes.
use Rattle.std.proofs.Common.{◌≡◌, refl, sym, ap, subst, ◌∙◌, arith, ℕ, ◌==◌, ◌||◌, ◌&&◌, Bool, true, false, List, cond}
use Rattle.std.proofs.Common.{Ordering, Less, Equal, Greater}
use Rattle.std.specs.Ordering.{is_eq, nat_cmp, ordering_then}
use Rattle.std.specs.Prelude.{nat_lt}
use Rattle.std.specs.Cmp.{nat_eq_equiv}
use Rattle.std.specs.Cmp.Lexicographic.{slice_cmp, bytes_decides, nat_list_eq_equiv}
use Rattle.std.specs.Str.{bytes_eq}
use Rattle.std.specs.BTreeSet.{BTreeSet, contains_by, UpdatesBy}
use Rattle.std.proofs.lemmas.Bool.{false≢true}
use Rattle.std.proofs.lemmas.Bool.Decides.{nat_tests}
use Rattle.std.proofs.lemmas.Map.Text.{is_eq-slice_cmp}
use Rattle.name_rules.proofs.KeysOf.{other_keys}

-- how a number and bytes compare to others
abbrev pub pair_cmp : ℕ → List ℕ → ℕ → List ℕ → Ordering
pair_cmp n bs m cs = ordering_then (nat_cmp n m) (slice_cmp nat_cmp bs cs)

-- both are the same
record SamePair (n : ℕ) (bs : List ℕ) (m : ℕ) (cs : List ℕ) : Type 0 where
  number : n ≡ m
  bytes : bs ≡ cs

both_equal : (a b : Ordering) → is_eq (ordering_then a b) ≡ true → (is_eq a ≡ true) × (is_eq b ≡ true)
both_equal Less b h = absurd (false≢true h)
both_equal Equal b h = (refl, h)
both_equal Greater b h = absurd (false≢true h)

nat_same : (n m : ℕ) → is_eq (nat_cmp n m) ≡ true → n ≡ m
nat_same n m h = let e : (n == m) ≡ true = tied (nat_lt n m) (n == m) h in grind (arith, nat_tests)
  where
    tied : (a b : Bool) → is_eq (cond a Less (cond b Equal Greater)) ≡ true → b ≡ true
    tied true b h = absurd (false≢true h)
    tied false true h = refl
    tied false false h = absurd (false≢true h)

same_pair : (n : ℕ) (bs : List ℕ) (m : ℕ) (cs : List ℕ) → is_eq (pair_cmp n bs m cs) ≡ true → SamePair n bs m cs
same_pair n bs m cs h =
    let both = both_equal (nat_cmp n m) (slice_cmp nat_cmp bs cs) h in
    record { number = nat_same n m both.0; bytes = (bytes_decides bs cs).0 (sym (is_eq-slice_cmp bs cs) ∙ both.1) }

by_tests : (n m : ℕ) (bs cs : List ℕ) → ((m == n) && bytes_eq bs cs) ≡ true → SamePair n bs m cs
by_tests n m bs cs h = let both = halves (m == n) (bytes_eq bs cs) h in record { number = sym (same m n both.0); bytes = (bytes_decides bs cs).0 both.1 }
  where
    halves : (a b : Bool) → (a && b) ≡ true → (a ≡ true) × (b ≡ true)
    halves true b h = (refl, h)
    halves false b h = absurd (false≢true h)

    same : (x y : ℕ) → (x == y) ≡ true → x ≡ y
    same x y e = grind (arith, nat_tests)

tests_hold : (n m : ℕ) (bs cs : List ℕ) → SamePair n bs m cs → ((m == n) && bytes_eq bs cs) ≡ true
tests_hold n m bs cs h =
    subst (λ k. ((k == n) && bytes_eq bs cs) ≡ true) h.number (subst (λ ks. ((n == n) && bytes_eq bs ks) ≡ true) h.bytes (ap (λ a. a && bytes_eq bs bs) (nat_eq_equiv.refl n) ∙ nat_list_eq_equiv.refl bs))

is_false : (t : Bool) → (t ≡ true → ⊥) → t ≡ false
is_false true h = absurd (h refl)
is_false false h = refl

or_true : (b : Bool) → (b || true) ≡ true
or_true true = refl
or_true false = refl

or_none : (b : Bool) → (b || false) ≡ b
or_none true = refl
or_none false = refl

-- a new key in such a set
pub pair_added : {V : Type 0} (f : V → List ℕ) (n : ℕ) (bs : List ℕ) (old new : BTreeSet (ℕ × V))
    → UpdatesBy (λ x y. pair_cmp x.0 (f x.1) y.0 (f y.1)) (λ k. pair_cmp n bs k.0 (f k.1)) old new true
    → (m : ℕ) (cs : List ℕ) → contains_by (λ k. pair_cmp m cs k.0 (f k.1)) new ≡ (contains_by (λ k. pair_cmp m cs k.0 (f k.1)) old || ((m == n) && bytes_eq bs cs))
pair_added f n bs old new h m cs = step ((m == n) && bytes_eq bs cs) refl
  where
    step : (b : Bool) → ((m == n) && bytes_eq bs cs) ≡ b → contains_by (λ k. pair_cmp m cs k.0 (f k.1)) new ≡ (contains_by (λ k. pair_cmp m cs k.0 (f k.1)) old || b)
    step true e =
        let same = by_tests n m bs cs e in
        subst (λ k. contains_by (λ key. pair_cmp k cs key.0 (f key.1)) new ≡ true) same.number
        (subst (λ ks. contains_by (λ key. pair_cmp n ks key.0 (f key.1)) new ≡ true) same.bytes h.1)
        ∙ sym (or_true (contains_by (λ k. pair_cmp m cs k.0 (f k.1)) old))
    step false e =
        other_keys _ _ _ _ h.3 (λ k. is_eq (pair_cmp m cs k.0 (f k.1)))
        (λ x y t. let same = same_pair m cs x.0 (f x.1) t in ap (λ k. is_eq (pair_cmp k cs y.0 (f y.1))) same.number ∙ ap (λ ks. is_eq (pair_cmp x.0 ks y.0 (f y.1))) same.bytes)
        (λ k t.
        let first = same_pair n bs k.0 (f k.1) t in
        is_false (is_eq (pair_cmp m cs k.0 (f k.1)))
        (λ u. let second = same_pair m cs k.0 (f k.1) u in
        false≢true (sym e ∙ tests_hold n m bs cs (record { number = first.number ∙ sym second.number; bytes = first.bytes ∙ sym second.bytes }))))
        ∙ sym (or_none (contains_by (λ k. pair_cmp m cs k.0 (f k.1)) old))

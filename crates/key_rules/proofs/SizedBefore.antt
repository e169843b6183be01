-- No item before one is unsized exactly where the first that is does not stand before it.
use Rattle.std.proofs.Common.{◌≡◌, ◌∙◌, refl, ap, arith, ℕ, zero, suc, ◌+◌, ◌≤◌, ◌<◌, Bool, true, false, not, ◌||◌, List, [], ◌∷◌, ◌++◌, length, length-append, Option, Some}
use Rattle.std.specs.Prelude.{if◌then◌else◌, nat_le, position, slice_get}
use Rattle.std.specs.List.{list_any, position_from}
use Rattle.std.proofs.lemmas.Bool.Decides.{nat_tests}
use Rattle.std.proofs.lemmas.Iterator.Adapters.{position_from-zero}
use Rattle.data_names.specs.Spots.{Spot, spots_after}
use Rattle.key_rules.specs.SeenKeys.{is_sized_before}

upto : (m n : ℕ) → m ≤ n → nat_le m n ≡ true
upto m n h = grind (arith, nat_tests)

past : (m n : ℕ) → n < m → nat_le m n ≡ false
past m n h = grind (arith, nat_tests)

none_step : (b : Bool) (m n : ℕ) (later : Option ℕ) → m ≤ n → is_sized_before later m ≡ true → is_sized_before (if b then Some n else later) m ≡ true
none_step true m n later h e = upto m n h
none_step false m n later h e = e

none_yet : {A : Type 0} (test : A → Bool) (m n : ℕ) (xs : List A) → m ≤ n → is_sized_before (position_from test n xs) m ≡ true
none_yet test m n [] h = refl
none_yet test m n (x ∷ xs) h = none_step (test x) m n (position_from test (n + 1) xs) h (none_yet test m (n + 1) xs (omega arith))

first_step : (b c : Bool) (n m : ℕ) (later : Option ℕ) → n < m → is_sized_before later m ≡ not c → is_sized_before (if b then Some n else later) m ≡ not (b || c)
first_step true c n m later h e = past m n h
first_step false c n m later h e = e

first_after : {A : Type 0} (test : A → Bool) (n m : ℕ) (before rest : List A) → m ≡ n + length before → is_sized_before (position_from test n (before ++ rest)) m ≡ not (list_any test before)
first_after test n m [] rest e = none_yet test m n rest (omega (arith, e))
first_after test n m (x ∷ before) rest e =
    first_step (test x) (list_any test before) n m (position_from test (n + 1) (before ++ rest)) (omega (arith, e)) (first_after test (n + 1) m before rest (omega (arith, e)))

pub sized_before : {A : Type 0} (test : A → Bool) (items before rest : List A) → items ≡ before ++ rest → is_sized_before (position test items) (length before) ≡ not (list_any test before)
sized_before test items before rest e =
    ap (λ (first : Option ℕ). is_sized_before first (length before)) (ap (position test) e ∙ position_from-zero test (before ++ rest)) ∙ first_after test 0 (length before) before rest (omega arith)

-- a spot has as many before it as its number says
pub before_long : {A : Type 0} (before xs : List A) (at : ℕ) (spot : Spot A) → slice_get (spots_after before xs) at ≡ Some spot → length spot.before ≡ length before + at
before_long before [] at spot h = cc h
before_long before (x ∷ xs) zero spot h = let same : Spot.before spot ≡ before = cc h in ap length same ∙ omega arith
before_long before (x ∷ xs) (suc at) spot h = before_long (before ++ x ∷ []) xs at spot h ∙ omega (arith, length-append before (x ∷ []))

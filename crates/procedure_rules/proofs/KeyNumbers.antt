-- The numbers of keys: what one more makes of them.
use Rattle.std.proofs.Common.{◌≡◌, ◌∙◌, sym, ap, refl, ℕ, ◌==◌, ◌||◌, Bool, true, false, cond, List}
use Rattle.std.specs.Ordering.{nat_cmp}
use Rattle.std.specs.Cmp.{nat_eq_equiv, unsigned_tied}
use Rattle.std.specs.BTreeSet.{BTreeSet, Updates, IsEmpty}
use Rattle.std.specs.BTreeMap.{is_at}
use Rattle.std.specs.List.{list_any}
use Rattle.procedure_rules.specs.KnownFiles.{has_number}

pub or_none : (b : Bool) → (b || false) ≡ b
or_none true = refl
or_none false = refl

pub or_apart : (a b c : Bool) → ((a || b) || c) ≡ (a || (b || c))
or_apart true b c = refl
or_apart false b c = refl

by_test : (test old : Bool) → cond test true old ≡ (old || test)
by_test true true = refl
by_test true false = refl
by_test false old = sym (or_none old)

pub number_added : (number : ℕ) (old new : BTreeSet ℕ) → Updates nat_cmp old new number true → (at_number : ℕ) → has_number new at_number ≡ (has_number old at_number || (at_number == number))
number_added number old new h at_number =
    h.0 at_number ∙ by_test _ (has_number old at_number) ∙ ap (λ b. has_number old at_number || b) (unsigned_tied number at_number ∙ nat_eq_equiv.symm number at_number)

pub none_yet : (numbers : BTreeSet ℕ) (number : ℕ) → IsEmpty numbers → has_number numbers number ≡ false
none_yet numbers number h = ap (λ (keys : List ℕ). list_any (is_at (nat_cmp number)) keys) h

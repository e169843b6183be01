-- A program that breaks no rule has a front that breaks none.
use Rattle.std.proofs.Common.{◌≡◌, refl, List, [], ◌∷◌, ◌++◌}
use Rattle.cob_base.specs.declared.paragraphs.Program.{Program}
use Rattle.cobol_checker.specs.Judged.{IsFaultless}
use Rattle.cobol_checker.specs.Outcome.{KeepsRules}

first_none : {A : Type 0} (xs ys : List A) → xs ++ ys ≡ [] → xs ≡ []
first_none [] ys h = refl
first_none (x ∷ xs) ys h = absurd (cc h)

pub front_of : (program : Program) → KeepsRules program → IsFaultless program.front
front_of program h = record { items = h.items; screens = h.screens; items_are = h.items_are; screens_are = h.screens_are; faultless = first_none _ _ h.faultless }

use Rattle.std.proofs.Common.{◌≡◌, refl, sym, arith, ℕ, false, Option, Some, None}
use Rattle.std.proofs.lemmas.Bool.{le-ltb}
use Rattle.procedure_rules.specs.Kinds as k
use Rattle.procedure_names.specs.Names.{paragraph_named}
use Rattle.procedure_rules.proofs.kinds.is_range_backwards.Goals as goal

never_before : (place : Option ℕ) → false ≡ k.is_before place place
never_before None = refl
never_before (Some n) = sym (le-ltb n n (omega arith))

pub returns-in-None : goal.returns-in-None
returns-in-None c = rw c.in-None.is (never_before (paragraph_named c.args.scope.now.program.now.paragraphs c.args.first.now))

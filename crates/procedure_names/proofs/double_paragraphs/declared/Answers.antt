use Rattle.std.proofs.Common.{List, ℕ, subst}
use Rattle.name_rules.specs.NameKeys.{AreKeys}
use Rattle.procedure_names.proofs.Taken.{names_are}
use Rattle.procedure_names.proofs.double_paragraphs.declared.Goals as goal

pub returns : goal.returns
returns c =
    subst (λ (names : List (List ℕ)). AreKeys names c.in_ok-names.names)
    (names_are c.args.front.now c.in_ok-all.all.items c.as_slice.result.now c.as_slice.ensures.value c.in_ok-all.ensures) c.in_ok-names.ensures

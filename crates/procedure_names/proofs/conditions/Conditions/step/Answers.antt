use Rattle.std.proofs.Common.{◌≡◌, ◌∙◌, sym, true}
use Rattle.procedure_names.specs.SeenConditions.{is_choice}
use Rattle.procedure_names.proofs.conditions.Conditions.step.Goals as goal

pub returns-then-matches : goal.returns-then-matches
returns-then-matches c = λ front some named known e among.
    let yes : is_choice c.args.reference.now (c.args.at, named) ≡ true = sym (c.matches.ensures front named known e) ∙ c.if-matches.true in
    rw yes (c.with_one.ensures some named among)

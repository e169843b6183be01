use Rattle.std.proofs.Common.{◌≡◌, ◌∙◌, sym, true}
use Rattle.data_names.specs.Table.{is_choice}
use Rattle.data_names.proofs.table.Table.step.Goals as goal

pub returns-then-matches : goal.returns-then-matches
returns-then-matches c = λ some spot e h.
    let is : is_choice c.args.name.now c.args.qualifiers.now (c.args.at, spot) ≡ true = sym (c.matches.ensures spot e) ∙ c.if-matches.true in
    rw is (c.with.ensures some spot h)

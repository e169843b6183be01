use Rattle.std.proofs.Common.{◌∙◌, ap}
use Rattle.data_layout.specs.Faults.{goes_deeper}
use Rattle.data_layout.proofs.Groups.{last_of-is}
use Rattle.data_layout.proofs.judging.does_go_deeper.Goals as goal

pub returns-in-Some : goal.returns-in-Some
returns-in-Some c = c.does_go_on.ensures ∙ ap (λ o. goes_deeper o c.args.row.now) (c.in-Some.ensures.value ∙ last_of-is c.args.rows.now)

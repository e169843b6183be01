use Rattle.std.proofs.Common.{ap, ◌∙◌}
use Rattle.data_layout.specs.Layout.{number_of}
use Rattle.data_layout.proofs.Groups.{last_of-is}
use Rattle.data_layout.proofs.placing.number_of_last.Goals as goal

pub returns-in-Some : goal.returns-in-Some
returns-in-Some c = ap number_of (c.in-Some.ensures.value ∙ last_of-is c.args.rows.now)

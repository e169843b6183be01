use Rattle.std.proofs.Common.{◌∙◌, ap}
use Rattle.screen_layout.specs.Placing.{goes_deeper}
use Rattle.screen_layout.proofs.ScreenGroups.{last_or-is}
use Rattle.screen_layout.proofs.walk.does_go_deeper.Goals as goal

pub returns-in-Some : goal.returns-in-Some
returns-in-Some c = c.does_go_on.ensures ∙ ap (λ o. goes_deeper o c.args.row.now) (c.in-Some.ensures.value ∙ last_or-is c.args.rows.now)

use Rattle.std.proofs.Common.{◌∙◌, ap, None, ◌||◌, ◌==◌}
use Rattle.std.specs.List.{last_or}
use Rattle.data_layout.specs.Rows.{rank}
use Rattle.screen_layout.specs.Placing.{goes_deeper}
use Rattle.screen_layout.specs.Walk.{any_level}
use Rattle.screen_layout.proofs.ScreenGroups.{last_or-opened}
use Rattle.screen_layout.proofs.walk.ScreenWalk.does_level_fit.Goals as goal

pub returns : goal.returns
returns c = λ before h.
    let row = c.args.row.now in
    let deeper = c.does_go_deeper-deeper.ensures ∙ ap (λ rows. goes_deeper (last_or None rows) row) (c.as_slice.ensures.value ∙ h.rows) ∙ ap (λ o. goes_deeper o row) (last_or-opened None before) in
    let returns = c.has_rank-returns.ensures ∙ ap (any_level row) (c.as_slice-2.ensures.value ∙ h.rows) in
    c.is_level_good.ensures ∙ ap (λ b. (rank row.level == 1) || b || c.has_rank-returns.result) deeper ∙ ap (λ b. (rank row.level == 1) || goes_deeper (last_or None before) row || b) returns

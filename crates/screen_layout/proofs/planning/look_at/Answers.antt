use Rattle.std.proofs.Common.{◌∙◌, ap}
use Rattle.std.specs.Prelude.{filter}
use Rattle.std.proofs.lemmas.List.{take_all}
use Rattle.screen_layout.specs.Placing.{goes_on}
use Rattle.screen_rows.specs.Clauses.{plain_look}
use Rattle.screen_layout.proofs.NestedLooks.{nested, look_more, look_whole}
use Rattle.screen_layout.proofs.planning.look_at.Goals as goal

pub loop-group-preserved : goal.loop-group-preserved
loop-group-preserved c = look_more c.args.rows.now c.loop-group.group-index _ c.args.row.now c.loop-group.look c.look_with-look.result c.loop-group-test.true c.loop-group.invariant c.look_with-look.ensures

pub returns : goal.returns
returns c = λ before h.
    let all = c.loop-group.invariant ∙ ap (λ xs. nested plain_look (filter (λ g. goes_on g c.args.row.now) xs)) (take_all c.loop-group.group-index c.args.rows.now c.loop-group-test.false) in
    look_whole before c.args.rows.now c.args.row.now c.loop-group.look c.look_within.result all h c.look_within.ensures

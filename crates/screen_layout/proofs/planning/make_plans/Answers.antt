use Rattle.std.proofs.Common.{List, take, subst, sym, ◌≤◌, ◌+◌, ◌∷◌, length}
use Rattle.std.specs.Vec.Iter.{into_iter_items}
use Rattle.screen_rows.specs.declared.row.ScreenRow.{ScreenRow}
use Rattle.screen_rows.specs.declared.row.Content.{Content}
use Rattle.screen_layout.proofs.PlannedScreens.{Planning, planned_more, planned_all}
use Rattle.screen_layout.proofs.planning.make_plans.Goals as goal

pub loop-row-preserved : goal.loop-row-preserved
loop-row-preserved c = λ layout sound faultless.
    let contents = c.args.read.contents.items in
    let same = c.as_slice-row-items.ensures.value in
    let so = subst (λ (left : List Content). Planning layout c.args.read.rows.items contents c.loop-row.row-index left c.loop-row.walk c.loop-row.plans) c.in-Some.ensures.items (c.loop-row.invariant layout sound faultless) in
    let here = subst (λ (rows : List ScreenRow). Planning layout rows contents c.loop-row.row-index (c.in-Some.content ∷ into_iter_items c.next.new.self) c.loop-row.walk c.loop-row.plans) (sym same) so in
    subst (λ (rows : List ScreenRow). Planning layout rows contents (c.loop-row.row-index + 1) (into_iter_items c.next.new.self) c.enter.new.self c.put_item.new.plans) same
    (planned_more layout c.as_slice-row-items.result.now contents c.loop-row.row-index _ c.in-Some.content (into_iter_items c.next.new.self) c.loop-row.walk c.enter.new.self c.loop-row.plans c.begin_at.new.plans c.put_item.new.plans c.loop-row-test.true here
    c.in_ok-begin_at.ensures c.in_ok-put_item.ensures (c.in_ok-enter.ensures (take c.loop-row.row-index c.as_slice-row-items.result.now) here.after))

pub returns : goal.returns
returns c = λ layout sound faultless. planned_all layout c.args.read.rows.items c.args.read.contents.items c.loop-row.row-index _ c.loop-row.walk c.loop-row.plans
    (subst (λ (rows : List ScreenRow). length rows ≤ c.loop-row.row-index) c.as_slice-row-items.ensures.value c.loop-row-test.false) (c.loop-row.invariant layout sound faultless)

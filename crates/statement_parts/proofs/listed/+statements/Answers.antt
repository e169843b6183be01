use Rattle.std.proofs.Common.{rules, ◌≡◌, ◌<◌, ◌≤◌, ap, arith, length, get_or}
use Rattle.statement_parts.specs.Statements.{inside, with_inner}
use Rattle.statement_parts.specs.Lists.{in_lists}
use Rattle.statement_parts.proofs.Inner.{one_more, fewer_inside, no_more_in}
use Rattle.statement_parts.proofs.listed.+statements.Goals as goal

pub add_all-add_lists-requires : goal.add_all-add_lists-requires
add_all-add_lists-requires t c =
    let same : length (in_lists c.lists_in.result) ≡ length (inside c.one-item.result.item) = ap length c.lists_in.ensures in
    let fewer : length (inside c.one-item.result.item) < length (with_inner c.args.statements.now) = fewer_inside c.args.statements.now c.loop-one.one-index c.one-item.result c.loop-one-test.true c.one-item.is in
    (omega (arith, c.decreases, same, fewer), tt)

pub add_all-loop-one-preserved : goal.add_all-loop-one-preserved
add_all-loop-one-preserved t c = one_more _ _ c.loop-one.all.items c.push.new.self.items _ c.args.statements.now c.loop-one.one-index _
    c.loop-one.invariant c.in_ok-push.ensures.items c.in_ok-add_lists.ensures c.lists_in.ensures c.loop-one-test.true c.one-item.is

pub add_lists-add_all-requires : goal.add_lists-add_all-requires
add_lists-add_all-requires t c =
    let four : length c.args.lists ≡ 4 = search (rules, c.well_formed, c.requires) in
    let no_more : length (with_inner (get_or c.args.lists c.loop-list.list-index c.list-item.result).now) ≤ length (in_lists c.args.lists) = no_more_in c.args.lists c.loop-list.list-index c.list-item.result (omega (arith, four, c.loop-list-test.true)) in
    (omega (arith, c.decreases, no_more), tt)

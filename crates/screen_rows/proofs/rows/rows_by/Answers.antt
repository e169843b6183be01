use Rattle.std.proofs.Common.{arith, ◌+◌, length}
use Rattle.std.proofs.lemmas.Slice.{between_to_end}
use Rattle.screen_rows.proofs.ReadRows.{go_on, gone_over}
use Rattle.screen_rows.proofs.rows.rows_by.Goals as goal

pub loop-at-preserved : goal.loop-at-preserved
loop-at-preserved c = rw (c.in_ok-push.ensures.items, c.in_ok-push-2.ensures.items)
    (go_on c.args.layout.now c.args.entries.now c.loop-at.at c.index-entries-at.result _ c.loop-at.rows.items c.loop-at.contents.items c.in_ok-row.row c.in_ok-row.content c.loop-at-test.true c.index-entries-at.is
    (between_to_end c.args.entries.now (c.loop-at.at + 1) (length c.args.entries.now) (omega arith)) c.in_ok-row.ensures c.loop-at.invariant)

pub returns : goal.returns
returns c = gone_over c.args.layout.now c.args.entries.now c.loop-at.at c.loop-at.rows.items c.loop-at.contents.items c.loop-at-test.false c.loop-at.invariant

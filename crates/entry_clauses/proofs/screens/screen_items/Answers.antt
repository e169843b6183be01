use Rattle.std.proofs.Common.{sym, subst, arith, ◌+◌, ◌==◌, length, map, List}
use Rattle.std.proofs.lemmas.Slice.{between_to_end}
use Rattle.cob_base.specs.declared.screen_entries.ScreenEntry.{ScreenEntry}
use Rattle.entry_clauses.specs.declared.screens.KnownScreen.{KnownScreen}
use Rattle.entry_clauses.specs.ScreenItems.{IsScreenItem}
use Rattle.entry_clauses.specs.SeenScreens.{seen_screen}
use Rattle.entry_clauses.proofs.ScreensOf.{Gathered, gathered_none, gathered_more, gathered_all}
use Rattle.entry_clauses.proofs.screens.screen_items.Goals as goal

pub loop-at-init : goal.loop-at-init
loop-at-init c = gathered_none c.args.entries.now c.new-walk.result c.new-items.result.items c.new-items.ensures.items c.new-walk.ensures

pub loop-at-preserved : goal.loop-at-preserved
loop-at-preserved c =
    let entries = c.args.entries.now in
    let at = c.loop-at.at in
    let made = c.in_ok-item.ensures (map seen_screen c.loop-at.items.items) c.loop-at.invariant.after in
    let rest = between_to_end entries (at + 1) (length entries) (omega arith) in
    subst (λ (items : List KnownScreen). Gathered entries (at + 1) c.screen_item.new.walk items) (sym c.in_ok-push.ensures.items)
    (gathered_more entries at c.index-entries-at.result c.loop-at.walk c.screen_item.new.walk c.loop-at.items.items c.in_ok-item.item c.loop-at-test.true c.index-entries-at.is c.loop-at.invariant made.0
    (subst (λ (later : List ScreenEntry). IsScreenItem (at == 0) at later (seen_screen c.in_ok-item.item)) rest made.1) made.2 made.3)

pub returns : goal.returns
returns c = gathered_all c.args.entries.now c.loop-at.at c.loop-at.walk c.loop-at.items.items c.loop-at-test.false c.loop-at.invariant

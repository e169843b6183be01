use Rattle.std.proofs.Common.{◌∙◌, refl, ap, ◌++◌, ◌+◌, List, map, take, drop}
use Rattle.std.specs.Prelude.{filter}
use Rattle.data_names.specs.Items.{DataItem}
use Rattle.data_names.specs.Seen.{seen_item}
use Rattle.data_names.specs.Spots.{Spot, spot_of}
use Rattle.front_rules.specs.Limits.{is_item_past_limit}
use Rattle.name_rules.specs.Faults.{faults_at}
use Rattle.name_rules.proofs.SpotsOf.{placed_item, noted_item, all_spots}
use Rattle.front_rules.proofs.limits.note_items_past_limits.Goals as goal

pub loop-at-preserved : goal.loop-at-preserved
loop-at-preserved c =
    let xs = c.args.table.now.items.now in
    let at = c.loop-at.at in
    let x = c.item-item.result in
    let p = placed_item xs at x c.loop-at-test.true c.item-item.is in
    let spot : Spot DataItem = spot_of (take at (map seen_item xs)) (seen_item x) (drop (at + 1) (map seen_item xs)) in
    noted_item 5 is_item_past_limit xs at x _ _ _ _ p (c.is_item_past_limit-is_past.ensures spot refl (c.facts_at.ensures spot p.at)) c.loop-at.invariant c.in_ok-note.ensures

pub returns : goal.returns
returns c =
    c.loop-at.invariant
    ∙ ap (λ (spots : List (Spot DataItem)). c.args.faults.now.found.items ++ faults_at 5 (map (λ (spot : Spot DataItem). spot.item.row.line) (filter is_item_past_limit spots)))
    (all_spots c.args.table.now.items.now c.loop-at.at c.loop-at-test.false)

use Rattle.std.proofs.Common.{◌∙◌, sym, ap, arith, ℕ, ◌+◌, ◌<◌, ◌≤◌, List, [], map, length, take, drop, Option}
use Rattle.std.specs.List.{take-map}
use Rattle.std.proofs.lemmas.List.{get_or-map, length-map}
use Rattle.data_names.specs.Items.{DataItem}
use Rattle.data_names.specs.Seen.{seen_item}
use Rattle.data_names.specs.Spots.{Spot, spot_of}
use Rattle.name_rules.specs.DoubleNames.{Named, named_item, own_group}
use Rattle.name_rules.proofs.SpotsOf.{placed_item}
use Rattle.name_rules.proofs.Later.{own_group_is}
use Rattle.name_rules.proofs.Twins.{twins_none, twins_more, twins_all}
use Rattle.name_rules.proofs.members.note_twin_items.Goals as goal

pub loop-at-init : goal.loop-at-init
loop-at-init c = twins_none (map named_item (map seen_item c.args.table.now.items.now)) c.new-members.result c.args.faults.now.found.items c.new-members.ensures

pub loop-at-preserved : goal.loop-at-preserved
loop-at-preserved c =
    let xs = c.args.table.now.items.now in
    let at = c.loop-at.at in
    let x = c.item-item.result in
    let items : List DataItem = map seen_item xs in
    let entries : List Named = map named_item items in
    let p = placed_item xs at x c.loop-at-test.true c.item-item.is in
    let spot : Spot DataItem = spot_of (take at items) (seen_item x) (drop (at + 1) items) in
    let facts = c.facts_at-facts.ensures spot p.at in
    let within : at < length entries = omega (arith, c.loop-at-test.true, length-map xs seen_item, length-map items named_item) in
    let here = ap (λ (one : _). named_item (seen_item one)) c.item-item.is
    ∙ sym (get_or-map named_item items at (seen_item x) (named_item (seen_item x)) (omega (arith, c.loop-at-test.true, length-map xs seen_item)) ∙ ap named_item (get_or-map seen_item xs at x (seen_item x) c.loop-at-test.true)) in
    let group = facts.parent ∙ sym (own_group_is named_item (take at items) (seen_item x))
    ∙ ap (λ (some : List Named). own_group (spot_of some (named_item (seen_item x)) [])) (sym (take-map named_item at items)) in
    let one = ap (λ (number : Option ℕ). record { line = x.row.line; group = number; name = x.text.now.name }) group in
    let noted = c.in_ok-note.ensures _ c.loop-at.invariant.members in
    twins_more entries at (named_item (seen_item x)) _ c.loop-at.members c.note.new.self _ _ _ within here one c.loop-at.invariant (record { found = noted.0; members = noted.1 })

pub returns : goal.returns
returns c =
    let xs = c.args.table.now.items.now in
    let items : List DataItem = map seen_item xs in
    let past : length (map named_item items) ≤ c.loop-at.at = omega (arith, c.loop-at-test.false, length-map xs seen_item, length-map items named_item) in
    twins_all (map named_item items) c.loop-at.at c.loop-at.members _ _ past c.loop-at.invariant

use Rattle.std.proofs.Common.{◌∙◌, sym, ap, arith, ℕ, ◌<◌, ◌≤◌, List, [], map, length, take, Option}
use Rattle.std.specs.List.{take-map}
use Rattle.std.proofs.lemmas.List.{get_or-map, length-map}
use Rattle.data_names.specs.Spots.{spot_of}
use Rattle.entry_clauses.specs.declared.screens.KnownScreen.{KnownScreen}
use Rattle.entry_clauses.specs.ScreenItems.{ScreenItem}
use Rattle.entry_clauses.specs.SeenScreens.{seen_screen}
use Rattle.name_rules.specs.DoubleNames.{Named, named_screen, own_group}
use Rattle.entry_clauses.proofs.PlacedScreens.{placed_at}
use Rattle.name_rules.proofs.Later.{own_group_is}
use Rattle.name_rules.proofs.Twins.{twins_none, twins_more, twins_all}
use Rattle.name_rules.proofs.members.note_twin_screens.Goals as goal

pub loop-item-init : goal.loop-item-init
loop-item-init c = twins_none (map named_screen (map seen_screen c.args.screens.now)) c.new-members.result c.args.faults.now.found.items c.new-members.ensures

pub loop-item-preserved : goal.loop-item-preserved
loop-item-preserved c =
    let xs = c.args.screens.now in
    let at = c.loop-item.item-index in
    let x = c.item-item.result in
    let items : List ScreenItem = map seen_screen xs in
    let entries : List Named = map named_screen items in
    let place = placed_at [] xs at x c.requires c.loop-item-test.true c.item-item.is in
    let within : at < length entries = omega (arith, c.loop-item-test.true, length-map xs seen_screen, length-map items named_screen) in
    let here = ap (λ (one : KnownScreen). named_screen (seen_screen one)) c.item-item.is
    ∙ sym (get_or-map named_screen items at (seen_screen x) (named_screen (seen_screen x)) (omega (arith, c.loop-item-test.true, length-map xs seen_screen)) ∙ ap named_screen (get_or-map seen_screen xs at x (seen_screen x) c.loop-item-test.true)) in
    let group = place.parent_is ∙ sym (own_group_is named_screen (map seen_screen (take at xs)) (seen_screen x))
    ∙ ap (λ (some : List ScreenItem). own_group (spot_of (map named_screen some) (named_screen (seen_screen x)) [])) (sym (take-map seen_screen at xs))
    ∙ ap (λ (some : List Named). own_group (spot_of some (named_screen (seen_screen x)) [])) (sym (take-map named_screen at items)) in
    let one = ap (λ (number : Option ℕ). record { line = x.row.line; group = number; name = x.entry.now.name }) group in
    let noted = c.in_ok-note.ensures _ c.loop-item.invariant.members in
    twins_more entries at (named_screen (seen_screen x)) _ c.loop-item.members c.note.new.self _ _ _ within here one c.loop-item.invariant (record { found = noted.0; members = noted.1 })

pub returns : goal.returns
returns c =
    let xs = c.args.screens.now in
    let items : List ScreenItem = map seen_screen xs in
    let past : length (map named_screen items) ≤ c.loop-item.item-index = omega (arith, c.loop-item-test.false, length-map xs seen_screen, length-map items named_screen) in
    twins_all (map named_screen items) c.loop-item.item-index c.loop-item.members _ _ past c.loop-item.invariant

use Rattle.std.proofs.Common.{◌≡◌, ◌∙◌, refl, sym, ap, ◌++◌, ◌+◌, List, [], map, take, drop}
use Rattle.std.specs.Prelude.{filter}
use Rattle.std.specs.List.{take-map}
use Rattle.data_layout.specs.Faults.{level_fits}
use Rattle.data_names.specs.Spots.{Spot, spot_of}
use Rattle.data_names.specs.Table.{items_of}
use Rattle.entry_clauses.specs.ScreenItems.{ScreenItem}
use Rattle.entry_clauses.specs.SeenScreens.{seen_screen}
use Rattle.screen_rules.specs.ScreenKinds.{is_screen_of_wrong_kind}
use Rattle.name_rules.specs.Faults.{faults_at}
use Rattle.entry_clauses.proofs.PlacedScreens.{placed_at}
use Rattle.front_rules.proofs.SpotsSeen.{placed_seen, all_seen, noted_seen}
use Rattle.front_rules.proofs.kinds.note_screens.Goals as goal

pub loop-item-preserved : goal.loop-item-preserved
loop-item-preserved c =
    let xs = c.args.screens.now in
    let at = c.loop-item.item-index in
    let x = c.item-item.result in
    let items : List ScreenItem = map seen_screen xs in
    let p = placed_seen seen_screen xs at x c.loop-item-test.true c.item-item.is in
    let spot : Spot ScreenItem = spot_of (take at items) (seen_screen x) (drop (at + 1) items) in
    let known = placed_at [] xs at x c.requires.screens c.loop-item-test.true c.item-item.is in
    let before : map seen_screen (take at xs) ≡ take at items = sym (take-map seen_screen at xs) in
    let fits = known.level_fits_is ∙ ap (λ (others : List ScreenItem). level_fits (map (λ (other : ScreenItem). other.row) others) x.row) before in
    noted_seen 6 (λ (item : ScreenItem). item.row.line) (is_screen_of_wrong_kind (items_of c.args.table.now)) items at (seen_screen x) _ _ _ _ p (c.in_ok-is_wrong.ensures spot refl fits) c.loop-item.invariant c.in_ok-note.ensures

pub returns : goal.returns
returns c =
    c.loop-item.invariant
    ∙ ap (λ (spots : List (Spot ScreenItem)). c.args.faults.now.found.items ++ faults_at 6 (map (λ (spot : Spot ScreenItem). spot.item.row.line) (filter (is_screen_of_wrong_kind (items_of c.args.table.now)) spots)))
    (all_seen seen_screen c.args.screens.now c.loop-item.item-index c.loop-item-test.false)

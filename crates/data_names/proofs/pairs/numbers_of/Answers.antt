use Rattle.std.proofs.Common.{◌≡◌, ◌∙◌, sym, ap, arith, ℕ, ◌<◌, ◌≤◌, Bool, ◌&&◌, List, [], ◌∷◌, ◌++◌, length, take, map, reverse}
use Rattle.std.specs.Prelude.{if◌then◌else◌}
use Rattle.std.proofs.lemmas.List.{get_or-map, length-map, length-take-le, take_all}
use Rattle.data_names.specs.declared.facts.Facts.{Facts}
use Rattle.data_names.specs.Items.{DataItem}
use Rattle.data_names.specs.Seen.{seen_item, seen_name}
use Rattle.data_names.specs.Spots.{spots}
use Rattle.data_names.specs.References.{names_around}
use Rattle.data_names.specs.Names.{numbers_from, numbers_under, ends_with}
use Rattle.data_names.specs.Asked.{is_asked, is_name_asked}
use Rattle.data_names.specs.Pairs.{is_in, is_under_pair, is_kept}
use Rattle.data_names.proofs.NumbersOf.{numbers-more}
use Rattle.data_names.proofs.Surveys.{facts_at, item_of_spot, length-AreFactsOf, length-spots}
use Rattle.data_names.proofs.PairsOf.{not_yet, spot_here}
use Rattle.data_names.proofs.pairs.numbers_of.Goals as goal

pub bounds-facts-at : goal.bounds-facts-at
bounds-facts-at c =
    let xs = c.args.items.now in
    let items : List DataItem = map seen_item xs in
    omega (arith, length-AreFactsOf (spots items) c.args.facts.now c.requires, length-spots items, length-map xs seen_item, c.loop-at-test.true)

pub loop-at-preserved : goal.loop-at-preserved
loop-at-preserved c =
    let xs = c.args.items.now in
    let at = c.loop-at.at in
    let x = c.index-items-at.result in
    let items : List DataItem = map seen_item xs in
    let within : at < length (spots items) = omega (arith, length-spots items, length-map xs seen_item, c.loop-at-test.true) in
    let some : at < length c.args.facts.now = omega (arith, length-AreFactsOf (spots items) c.args.facts.now c.requires, within) in
    let here = spot_here items at (seen_item x) within in
    let spot = here.spot in
    let item : spot.item ≡ seen_item x = item_of_spot [] items at spot (seen_item x) here.at ∙ get_or-map seen_item xs at x (seen_item x) c.loop-at-test.true ∙ ap seen_item (sym c.index-items-at.is) in
    let facts = facts_at (spots items) c.args.facts.now at spot c.index-facts-at.result c.requires here.at some c.index-facts-at.is in
    let before : length (take at (spots items)) ≤ at = omega (arith, length-take-le at (spots items) (omega arith)) in
    λ (key : List ℕ).
    let made = c.in_ok-put_item.ensures (λ (other : List ℕ). ap (ends_with at) (c.loop-at.invariant other) ∙ not_yet at (is_kept c.args.asked.now other) (take at (spots items)) before) key in
    let old = numbers_under c.loop-at.numbers key in
    let names = ap (map seen_name) c.as_slice.ensures.value ∙ ap (λ (one : Facts). map seen_name one.groups.items) (sym c.index-facts-at.is) ∙ facts.groups in
    let asked = c.args.asked.now in
    let under = ap (is_in key x.text.now.name) names ∙ ap (λ (one : DataItem). is_in key one.text.name (reverse (names_around spot))) (sym item) in
    let test = ap (λ (b : Bool). is_name_asked asked x.text.now.name && (b && is_asked asked key)) under ∙ ap (λ (one : DataItem). is_name_asked asked one.text.name && (is_under_pair key spot && is_asked asked key)) (sym item) in
    numbers-more (is_kept asked key) (spots items) at spot old _ within here.read (c.loop-at.invariant key) (made ∙ ap (λ (b : Bool). if b then old ++ at ∷ [] else old) test)

pub returns : goal.returns
returns c = λ (key : List ℕ).
    let xs = c.args.items.now in
    let items : List DataItem = map seen_item xs in
    let past : length (spots items) ≤ c.loop-at.at = omega (arith, length-spots items, length-map xs seen_item, c.loop-at-test.false) in
    c.loop-at.invariant key ∙ ap (numbers_from 0 (is_kept c.args.asked.now key)) (take_all c.loop-at.at (spots items) past)

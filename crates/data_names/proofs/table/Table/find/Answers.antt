use Rattle.std.proofs.Common.{◌≡◌, refl, ap, subst, arith, ℕ, ◌+◌, List, length, take, get_or}
use Rattle.std.specs.Prelude.{filter}
use Rattle.std.proofs.lemmas.List.{length-map, take_all}
use Rattle.std.proofs.lemmas.Option.{slice_get_within}
use Rattle.data_names.specs.Items.{DataItem}
use Rattle.data_names.specs.Spots.{Spot, spots}
use Rattle.data_names.specs.Seen.{seen_item}
use Rattle.data_names.specs.Table.{IsAmong, is_choice, items_of}
use Rattle.data_names.proofs.Surveys.{length-spots}
use Rattle.data_names.proofs.Choices.{passing, numbers_passing, turn, after_turn, several_all, found_all}
use Rattle.data_names.proofs.table.Table.find.Goals as goal

pub loop-at-init : goal.loop-at-init
loop-at-init c =
    let cover = c.in_ok-numbers.ensures in
    record { cover = cover; numbers = numbers_passing (items_of c.args.self.now) cover.test c.in_ok-numbers.numbers.now cover.numbers_are; found = refl }

pub step-found-requires-clause-within : goal.step-found-requires-clause-within
step-found-requires-clause-within c =
    let items = items_of c.args.self.now in
    let t = turn items c.loop-at.invariant.cover.test c.in_ok-numbers.numbers.now c.loop-at.at-index c.loop-at.invariant.numbers c.loop-at-test.true in
    omega (arith, slice_get_within (spots items) (get_or c.in_ok-numbers.numbers.now c.loop-at.at-index 0) t.one t.placed, length-spots items, length-map c.args.self.now.items.now seen_item)

pub loop-at-preserved : goal.loop-at-preserved
loop-at-preserved c =
    let items = items_of c.args.self.now in
    let numbers = c.in_ok-numbers.numbers.now in
    let test = c.loop-at.invariant.cover.test in
    let t = turn items test numbers c.loop-at.at-index c.loop-at.invariant.numbers c.loop-at-test.true in
    record {
      cover = c.loop-at.invariant.cover;
      numbers = c.loop-at.invariant.numbers;
      found = after_turn items test numbers c.loop-at.at-index c.args.name.now c.args.qualifiers.now _ t (c.step-found.ensures _ t.one t.placed c.loop-at.invariant.found);
    }

pub returns-in-Several : goal.returns-in-Several
returns-in-Several c =
    let items = items_of c.args.self.now in
    let numbers = c.in_ok-numbers.numbers.now in
    let cover = c.loop-at.invariant.cover in
    let t = turn items cover.test numbers c.loop-at.at-index c.loop-at.invariant.numbers c.loop-at-test.true in
    several_all items c.args.name.now c.args.qualifiers.now cover.test (c.loop-at.at-index + 1) _ cover.covers c.in-Several.is
    (after_turn items cover.test numbers c.loop-at.at-index c.args.name.now c.args.qualifiers.now _ t (c.step-found.ensures _ t.one t.placed c.loop-at.invariant.found))

pub returns : goal.returns
returns c =
    let items = items_of c.args.self.now in
    let cover = c.loop-at.invariant.cover in
    let pairs = passing items cover.test in
    let all : take c.loop-at.at-index pairs ≡ pairs =
    take_all c.loop-at.at-index pairs (omega (arith, ap length c.loop-at.invariant.numbers, length-map pairs (λ (p : ℕ × Spot DataItem). p.0), c.loop-at-test.false)) in
    found_all items c.args.name.now c.args.qualifiers.now cover.test c.loop-at.found cover.covers
    (subst (λ (some : List (ℕ × Spot DataItem)). IsAmong (filter (is_choice c.args.name.now c.args.qualifiers.now) some) c.loop-at.found) all c.loop-at.invariant.found)

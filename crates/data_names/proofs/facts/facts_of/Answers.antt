use Rattle.std.proofs.Common.{◌≡◌, ◌∙◌, sym, subst, arith, ◌+◌, length, take, drop, map, List}
use Rattle.std.proofs.lemmas.Slice.{between_to_end}
use Rattle.std.proofs.lemmas.List.{take_all, length-map}
use Rattle.data_names.specs.Items.{DataItem}
use Rattle.data_names.specs.Spots.{Spot, spots}
use Rattle.data_names.specs.Seen.{seen_item}
use Rattle.data_names.specs.Facts.{AreFactsOf}
use Rattle.data_names.proofs.Surveys.{step_at, rows_behind, AreFactsOf-push, length-spots, counted_few}
use Rattle.data_names.proofs.facts.facts_of.Goals as goal

pub enter-requires : goal.enter-requires
enter-requires c = let few = counted_few c.args.items.now c.loop-at.at c.loop-at.survey.with_bytes c.loop-at-test.true c.loop-at.invariant.survey.with_bytes in omega (arith, few)

pub loop-at-preserved : goal.loop-at-preserved
loop-at-preserved c =
    let xs = c.args.items.now in
    let at = c.loop-at.at in
    let step = step_at xs at c.index-items-at.result c.loop-at-test.true c.index-items-at.is in
    let behind = rows_behind xs c.args.rows.now (at + 1) c.requires ∙ sym (between_to_end c.args.rows.now (at + 1) (length c.args.rows.now) (omega arith)) in
    let made = c.in_ok-enter.ensures (map seen_item (take at xs)) (map seen_item (drop (at + 1) xs)) c.loop-at.invariant.survey behind in
    record {
      survey = rw step.more made.1;
      facts = rw (step.spots_more, c.in_ok-push.ensures.items) (AreFactsOf-push _ _ _ _ c.loop-at.invariant.facts made.0);
    }

pub returns : goal.returns
returns c =
    let items : List DataItem = map seen_item c.args.items.now in
    let all : take c.loop-at.at (spots items) ≡ spots items =
    take_all c.loop-at.at (spots items) (omega (arith, length-spots items, length-map c.args.items.now seen_item, c.loop-at-test.false)) in
    subst (λ (done : List (Spot DataItem)). AreFactsOf done c.loop-at.facts.items) all c.loop-at.invariant.facts

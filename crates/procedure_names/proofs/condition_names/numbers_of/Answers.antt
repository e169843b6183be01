use Rattle.std.proofs.Common.{arith, subst, ◌≤◌, List, length}
use Rattle.std.proofs.lemmas.List.{length-map, take_all}
use Rattle.std.proofs.lemmas.Slice.Zip.{AllZip-long}
use Rattle.data_names.specs.Seen.{seen_item}
use Rattle.data_names.specs.Table.{items_of}
use Rattle.procedure_names.specs.Conditions.{NamedCondition}
use Rattle.procedure_names.specs.ConditionNames.{ArePaired}
use Rattle.procedure_names.specs.SeenConditions.{IsKnownCondition}
use Rattle.procedure_names.proofs.KnownConditions.{both_at, item_within}
use Rattle.procedure_names.proofs.NamesOf.{none_yet, paired_more}
use Rattle.procedure_names.proofs.condition_names.numbers_of.Goals as goal

pub put_condition-requires-clause-within : goal.put_condition-requires-clause-within
put_condition-requires-clause-within c =
    let items = items_of c.args.table.now in
    let both = both_at items c.args.all.now c.requires.known.0 c.loop-at.at c.index-all-at.result c.requires.known.1 c.loop-at-test.true c.index-all-at.is in
    omega (arith, item_within items c.index-all-at.result both.one both.known, length-map c.args.table.now.items.now seen_item)

pub loop-at-preserved : goal.loop-at-preserved
loop-at-preserved c = λ named h.
    let at = c.loop-at.at in
    let asked = c.args.asked.now in
    let both = both_at (items_of c.args.table.now) c.args.all.now named at c.index-all-at.result h c.loop-at-test.true c.index-all-at.is in
    let so_far = c.loop-at.invariant named h in
    paired_more named asked at both.one c.loop-at.numbers c.put_condition.new.numbers both.within both.read so_far (c.in_ok-put_condition.ensures both.one both.known (none_yet named at asked c.loop-at.numbers both.within so_far))

pub returns : goal.returns
returns c = λ named h.
    let past : length named ≤ c.loop-at.at = omega (arith, AllZip-long (IsKnownCondition (items_of c.args.table.now)) c.args.all.now named h, c.loop-at-test.false) in
    subst (λ (some : List NamedCondition). ArePaired some c.args.asked.now c.loop-at.numbers) (take_all c.loop-at.at named past) (c.loop-at.invariant named h)

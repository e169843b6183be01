use Rattle.std.proofs.Common.{arith, Some}
use Rattle.std.proofs.lemmas.Slice.Zip.{AllZip-long}
use Rattle.procedure_names.specs.Conditions.{NamedCondition, conditions}
use Rattle.value_rules.specs.Kinds.{is_bad_condition}
use Rattle.procedure_names.specs.Scoped.{front_in, items_in}
use Rattle.procedure_names.specs.SeenConditions.{IsKnownCondition}
use Rattle.procedure_names.proofs.KnownConditions.{known}
use Rattle.value_rules.proofs.Marks.{marks_more, marks_all}
use Rattle.value_rules.proofs.SpotsWithin.{within_table}
use Rattle.value_rules.proofs.judged_conditions.bad_conditions.Goals as goal

pub is_bad_known-requires : goal.is_bad_known-requires
is_bad_known-requires c =
    let front = front_in c.args.scope.now in
    let items = items_in c.args.scope.now in
    let one = known front items c.args.scope.now.conditions c.loop-at.at c.requires.conditions (omega (arith, c.loop-at-test.true, c.count-at-end.ensures)) in
    within_table c.args.scope.now.table.now c.get.result.item one.named.spot (c.get.ensures front items one.named c.requires.conditions one.is).item

pub loop-at-preserved : goal.loop-at-preserved
loop-at-preserved c =
    let front = front_in c.args.scope.now in
    let items = items_in c.args.scope.now in
    let one = known front items c.args.scope.now.conditions c.loop-at.at c.requires.conditions (omega (arith, c.loop-at-test.true, c.count-at-end.ensures)) in
    marks_more (λ (some : NamedCondition). is_bad_condition (Some some)) (conditions front items) c.loop-at.at one.named c.is_bad_known.result c.loop-at.marks.items c.push.new.self.items one.is c.loop-at.invariant
    (c.is_bad_known.ensures one.named (c.get.ensures front items one.named c.requires.conditions one.is)) c.in_ok-push.ensures.items

pub returns : goal.returns
returns c =
    let front = front_in c.args.scope.now in
    let items = items_in c.args.scope.now in
    marks_all (λ (some : NamedCondition). is_bad_condition (Some some)) (conditions front items) c.loop-at.at c.loop-at.marks.items
    (omega (arith, c.loop-at-test.false, c.count-at-end.ensures, AllZip-long (IsKnownCondition items) c.args.scope.now.conditions.all.items (conditions front items) c.requires.conditions.all)) c.loop-at.invariant

use Rattle.std.proofs.Common.{◌+◌, get_or}
use Rattle.data_names.specs.Table.{items_of}
use Rattle.procedure_names.specs.Conditions.{conditions}
use Rattle.procedure_names.proofs.Choices.{none_so_far, turn, after_turn, several_all, all_so_far}
use Rattle.procedure_names.proofs.KnownConditions.{within_conditions}
use Rattle.procedure_names.proofs.conditions.Conditions.find.Goals as goal

pub loop-at-init : goal.loop-at-init
loop-at-init c = λ front known.
    let all = conditions front (items_of c.args.table.now) in
    none_so_far all c.args.reference.now c.in_ok-numbers.numbers.now (c.in_ok-numbers.ensures all known.names)

pub step-found-requires-clause-within : goal.step-found-requires-clause-within
step-found-requires-clause-within c =
    let front = c.requires.conditions.0 in
    let known = c.requires.conditions.1 in
    let items = items_of c.args.table.now in
    let numbers = c.in_ok-numbers.numbers.now in
    let t = turn (conditions front items) c.args.reference.now numbers c.loop-at.at-index (c.loop-at.invariant front known).cover c.loop-at-test.true in
    within_conditions front items c.args.self.now (get_or numbers c.loop-at.at-index 0) t.one known t.placed

pub loop-at-preserved : goal.loop-at-preserved
loop-at-preserved c = λ front known.
    let all = conditions front (items_of c.args.table.now) in
    let numbers = c.in_ok-numbers.numbers.now in
    let so_far = c.loop-at.invariant front known in
    let t = turn all c.args.reference.now numbers c.loop-at.at-index so_far.cover c.loop-at-test.true in
    after_turn all c.args.reference.now numbers c.loop-at.at-index _ so_far.cover t (c.step-found.ensures front _ t.one known t.placed so_far.among)

pub returns-in-Several : goal.returns-in-Several
returns-in-Several c = λ front known.
    let items = items_of c.args.table.now in
    let numbers = c.in_ok-numbers.numbers.now in
    let so_far = c.loop-at.invariant front known in
    let t = turn (conditions front items) c.args.reference.now numbers c.loop-at.at-index so_far.cover c.loop-at-test.true in
    several_all front items c.args.reference.now numbers (c.loop-at.at-index + 1) _ c.in-Several.is
    (after_turn (conditions front items) c.args.reference.now numbers c.loop-at.at-index _ so_far.cover t (c.step-found.ensures front _ t.one known t.placed so_far.among))

pub returns : goal.returns
returns c = λ front known.
    all_so_far front (items_of c.args.table.now) c.args.reference.now c.in_ok-numbers.numbers.now c.loop-at.at-index c.loop-at.found c.loop-at-test.false (c.loop-at.invariant front known)

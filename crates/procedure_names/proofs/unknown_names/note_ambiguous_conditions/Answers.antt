use Rattle.std.proofs.Common.{◌<◌, ◌≤◌, ◌∙◌, sym, ap, subst, arith, ◌++◌, List, length, map}
use Rattle.std.specs.Prelude.{filter, nat_lt}
use Rattle.std.proofs.lemmas.List.{get_or-map, length-map}
use Rattle.std.proofs.lemmas.List.Elements.{All-get_or}
use Rattle.cob_base.specs.declared.divisions.Front.{Front}
use Rattle.data_names.specs.Items.{DataItem}
use Rattle.name_rules.specs.Mentions as m
use Rattle.name_rules.specs.Faults.{faults_at}
use Rattle.procedure_names.specs.Conditions.{count_of_conditions}
use Rattle.procedure_names.specs.SeenNames.{IsFoundAsCondition, seen_condition}
use Rattle.procedure_names.proofs.Noted.{noted_more, noted_all}
use Rattle.procedure_names.proofs.unknown_names.note_ambiguous_conditions.Goals as goal

pub loop-mention-preserved : goal.loop-mention-preserved
loop-mention-preserved c = λ (front : Front) (items : List DataItem) h.
    let some = c.args.mentions.now in
    let at = c.loop-mention.mention-index in
    let x = c.mention-item.result in
    let within : at < length (map seen_condition some) = omega (arith, c.loop-mention-test.true, length-map some seen_condition) in
    let found = subst (IsFoundAsCondition front items) (sym c.mention-item.is) (All-get_or (IsFoundAsCondition front items) some at x c.loop-mention-test.true h) in
    noted_more 2 (λ (one : m.Mention). one.line) (λ (one : m.Mention). nat_lt 1 (count_of_conditions front items one.reference)) (map seen_condition some) at (seen_condition x) _ _ _ _ within
    (ap seen_condition c.mention-item.is ∙ sym (get_or-map seen_condition some at x (seen_condition x) c.loop-mention-test.true))
    (c.is_several.ensures front items x.reference.now found) (c.loop-mention.invariant front items h) c.in_ok-note.ensures

pub returns : goal.returns
returns c = λ (front : Front) (items : List DataItem) all h.
    let some = c.args.mentions.now in
    let past : length (map seen_condition some) ≤ c.loop-mention.mention-index = omega (arith, c.loop-mention-test.false, length-map some seen_condition) in
    noted_all 2 (λ (one : m.Mention). one.line) (λ (one : m.Mention). nat_lt 1 (count_of_conditions front items one.reference)) (map seen_condition some) c.loop-mention.mention-index _ _ past (c.loop-mention.invariant front items h.found)
    ∙ ap (λ (lists : List m.Mention). c.args.faults.now.found.items ++ faults_at 2 (map (λ (one : m.Mention). one.line) (filter (λ (one : m.Mention). nat_lt 1 (count_of_conditions front items one.reference)) lists))) h.seen

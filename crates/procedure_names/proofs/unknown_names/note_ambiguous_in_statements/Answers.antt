use Rattle.std.proofs.Common.{sym, subst, List}
use Rattle.std.specs.Prelude.{nat_lt}
use Rattle.data_names.specs.Items.{DataItem}
use Rattle.data_names.specs.References.{count_of_matches}
use Rattle.name_rules.specs.declared.mentions.Mention.{Mention}
use Rattle.name_rules.specs.Mentions as m
use Rattle.name_rules.specs.SeenMentions.{AreFoundAs}
use Rattle.statement_parts.specs.Statements.{statements}
use Rattle.procedure_names.specs.declared.mentions.ConditionMention.{ConditionMention}
use Rattle.procedure_names.specs.Mentions.{item_mentions, subscript_mentions, condition_mentions}
use Rattle.procedure_names.specs.SeenNames.{AreFoundConditions}
use Rattle.procedure_names.proofs.Noted.{noted_parts, noted_twice}
use Rattle.procedure_names.proofs.unknown_names.note_ambiguous_in_statements.Goals as goal

pub returns : goal.returns
returns c = λ program (items : List DataItem) h.
    let all = statements program.paragraphs in
    let first = subst (λ (made : List Mention). AreFoundAs items (item_mentions all) made) (sym c.as_slice.ensures.value) h.items_are in
    let second = subst (λ (made : List Mention). AreFoundAs items (subscript_mentions all) made) (sym c.as_slice-2.ensures.value) h.subscripts_are in
    let third = subst (λ (made : List ConditionMention). AreFoundConditions program.front items (condition_mentions all) made) (sym c.as_slice-3.ensures.value) h.conditions_are in
    let both = noted_parts 2 (λ (one : m.Mention). one.line) (λ (one : m.Mention). nat_lt 1 (count_of_matches items one.reference)) (item_mentions all) (subscript_mentions all) _ _ _
    (c.in_ok-note_ambiguous.ensures items (item_mentions all) first) (c.in_ok-note_ambiguous-2.ensures items (subscript_mentions all) second) in
    noted_twice 2 _ _ _ _ _ both (c.in_ok-note_ambiguous_conditions.ensures program.front items (condition_mentions all) third)

use Rattle.std.proofs.Common.{◌∙◌, subst, ap, ◌++◌, map, List}
use Rattle.data_names.specs.Table.{items_of}
use Rattle.name_rules.specs.declared.mentions.Mention.{Mention}
use Rattle.name_rules.specs.Mentions as m
use Rattle.name_rules.specs.SeenMentions.{AreFoundAs, seen_mention}
use Rattle.statement_parts.specs.Seen.{seen_all}
use Rattle.procedure_names.specs.declared.mentions.ConditionMention.{ConditionMention}
use Rattle.procedure_names.specs.Mentions.{subscripts_of, item_mentions}
use Rattle.procedure_names.specs.SeenNames.{seen_condition}
use Rattle.procedure_names.proofs.mentions.mentions_of.Goals as goal

pub returns : goal.returns
returns c = λ front known.
    let all = seen_all c.args.statements.now in
    let items = c.in_ok-items.items.items in
    let made = c.in_ok-conditions.ensures front known in
    let lent = c.as_slice-2.result.now in
    let refs = ap (λ (xs : List Mention). map seen_mention xs ++ map seen_condition lent) c.as_slice.ensures.value
    ∙ ap (λ (ys : List ConditionMention). map seen_mention items ++ map seen_condition ys) c.as_slice-2.ensures.value
    ∙ ap (λ (some : List m.Mention). some ++ map seen_condition c.in_ok-conditions.conditions.items) c.in_ok-items.ensures.seen
    ∙ ap (λ (some : List m.Mention). item_mentions all ++ some) made.seen in
    record {
      items_are = c.in_ok-items.ensures;
      subscripts_are = subst (λ (some : List m.Mention). AreFoundAs (items_of c.args.table.now) (subscripts_of some) c.in_ok-subscripts.subscripts.items) refs c.in_ok-subscripts.ensures;
      conditions_are = made;
    }

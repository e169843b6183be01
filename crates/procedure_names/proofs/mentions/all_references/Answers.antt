use Rattle.std.proofs.Common.{◌∙◌, sym, ap, ◌++◌, append-nil, map, List}
use Rattle.std.proofs.lemmas.List.{take_all}
use Rattle.name_rules.specs.SeenMentions.{seen_mention}
use Rattle.procedure_names.specs.declared.mentions.ConditionMention.{ConditionMention}
use Rattle.procedure_names.specs.SeenNames.{seen_condition}
use Rattle.procedure_names.proofs.MentionsOf.{copies_more}
use Rattle.procedure_names.proofs.mentions.all_references.Goals as goal

pub loop-condition-init : goal.loop-condition-init
loop-condition-init c = ap (map seen_mention) c.in_ok-all.ensures ∙ sym (append-nil (map seen_mention c.args.items.now))

pub loop-condition-preserved : goal.loop-condition-preserved
loop-condition-preserved c =
    copies_more (map seen_mention c.args.items.now) c.args.conditions.now c.loop-condition.condition-index c.condition-item.result c.as_mention.result c.loop-condition.all.items c.push.new.self.items
    c.loop-condition-test.true c.condition-item.is c.as_mention.ensures c.loop-condition.invariant c.in_ok-push.ensures.items

pub returns : goal.returns
returns c =
    c.loop-condition.invariant ∙ ap (λ (some : List ConditionMention). map seen_mention c.args.items.now ++ map seen_condition some) (take_all c.loop-condition.condition-index c.args.conditions.now c.loop-condition-test.false)

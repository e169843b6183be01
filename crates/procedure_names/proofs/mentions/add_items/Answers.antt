use Rattle.std.proofs.Common.{◌∙◌, ap, subst, List, map}
use Rattle.std.proofs.lemmas.List.{take_all}
use Rattle.cob_base.specs.declared.operands.Reference.{Reference}
use Rattle.data_names.specs.Table.{items_of}
use Rattle.name_rules.specs.Mentions.{mention}
use Rattle.name_rules.specs.SeenMentions.{AddsMentions}
use Rattle.statement_parts.specs.Seen.{seen_all}
use Rattle.procedure_names.proofs.MentionsOf.{adds_one, adds_none}
use Rattle.procedure_names.proofs.Lent.{lent_within, lent_at, lent_past}
use Rattle.procedure_names.proofs.mentions.add_items.Goals as goal

pub loop-item-init : goal.loop-item-init
loop-item-init c = adds_none (items_of c.args.table.now) c.args.mentions.now.items

pub loop-item-preserved : goal.loop-item-preserved
loop-item-preserved c =
    let xs = c.as_slice-item-items.result.now in
    let at = c.loop-item.item-index in
    adds_one (items_of c.args.table.now) (mention c.args.one.now.line) (seen_all xs) at c.item-item.result.now c.args.mentions.now.items c.loop-item.mentions.items c.add.new.mentions.items
    (lent_within xs at c.loop-item-test.true) (lent_at xs at c.item-item.result c.loop-item-test.true c.item-item.is) c.loop-item.invariant c.in_ok-add.ensures

pub returns : goal.returns
returns c =
    let xs = c.as_slice-item-items.result.now in
    let at = c.loop-item.item-index in
    subst (λ (refs : List Reference). AddsMentions (items_of c.args.table.now) (map (mention c.args.one.now.line) refs) c.args.mentions.now.items c.loop-item.mentions.items)
    (take_all at (seen_all xs) (lent_past xs at c.loop-item-test.false) ∙ ap seen_all c.as_slice-item-items.ensures.value ∙ c.in_ok-items.ensures) c.loop-item.invariant

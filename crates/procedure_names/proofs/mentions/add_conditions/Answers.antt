use Rattle.std.proofs.Common.{◌∙◌, ap, subst, List, map}
use Rattle.std.proofs.lemmas.List.{take_all}
use Rattle.cob_base.specs.declared.operands.Reference.{Reference}
use Rattle.data_names.specs.Table.{items_of}
use Rattle.name_rules.specs.Mentions.{mention}
use Rattle.statement_parts.specs.Seen.{seen_all}
use Rattle.procedure_names.specs.SeenNames.{AddsConditions}
use Rattle.procedure_names.proofs.MentionsOf.{adds_one_condition, adds_no_condition}
use Rattle.procedure_names.proofs.Lent.{lent_within, lent_at, lent_past}
use Rattle.procedure_names.proofs.mentions.add_conditions.Goals as goal

pub loop-name-init : goal.loop-name-init
loop-name-init c = λ front known. adds_no_condition front (items_of c.args.table.now) c.args.mentions.now.items

pub loop-name-preserved : goal.loop-name-preserved
loop-name-preserved c = λ front known.
    let xs = c.as_slice-name-items.result.now in
    let at = c.loop-name.name-index in
    adds_one_condition front (items_of c.args.table.now) (mention c.args.one.now.line) (seen_all xs) at c.name-item.result.now c.args.mentions.now.items c.loop-name.mentions.items c.add_condition.new.mentions.items
    (lent_within xs at c.loop-name-test.true) (lent_at xs at c.name-item.result c.loop-name-test.true c.name-item.is) (c.loop-name.invariant front known) (c.in_ok-add_condition.ensures front known)

pub returns : goal.returns
returns c = λ front known.
    let xs = c.as_slice-name-items.result.now in
    let at = c.loop-name.name-index in
    subst (λ (refs : List Reference). AddsConditions front (items_of c.args.table.now) (map (mention c.args.one.now.line) refs) c.args.mentions.now.items c.loop-name.mentions.items)
    (take_all at (seen_all xs) (lent_past xs at c.loop-name-test.false) ∙ ap seen_all c.as_slice-name-items.ensures.value ∙ c.in_ok-names.ensures) (c.loop-name.invariant front known)

use Rattle.std.proofs.Common.{◌∙◌, sym, ap, ◌++◌, ◌∷◌, [], take, List}
use Rattle.std.proofs.lemmas.List.{take_more, take_all}
use Rattle.name_rules.specs.declared.mentions.Mention.{Mention}
use Rattle.procedure_names.proofs.mentions.copied.Goals as goal

pub loop-item-preserved : goal.loop-item-preserved
loop-item-preserved c =
    let xs = c.args.items.now in
    let at = c.loop-item.item-index in
    let x = c.item-item.result in
    c.in_ok-push.ensures.items ∙ ap (λ (some : List Mention). some ++ x ∷ []) c.loop-item.invariant
    ∙ sym (take_more xs at x c.loop-item-test.true ∙ ap (λ (y : Mention). take at xs ++ y ∷ []) (sym c.item-item.is))

pub returns : goal.returns
returns c = c.loop-item.invariant ∙ take_all c.loop-item.item-index c.args.items.now c.loop-item-test.false

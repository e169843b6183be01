use Rattle.std.proofs.Common.{◌∙◌, sym, ap, ℕ, List}
use Rattle.std.proofs.lemmas.List.{take_all}
use Rattle.data_names.specs.declared.known.KnownItem.{KnownItem}
use Rattle.data_names.specs.Items.{DataItem}
use Rattle.data_names.specs.Seen.{seen_item}
use Rattle.data_names.specs.Names.{numbers_from, is_under}
use Rattle.data_names.proofs.NumbersOf.{numbers-more, numbers_from-map}
use Rattle.data_names.proofs.names.Names.of.Goals as goal

pub loop-at-preserved : goal.loop-at-preserved
loop-at-preserved c = λ (key : List ℕ).
    numbers-more (λ (item : KnownItem). is_under key item.text.now.name) c.args.items.now c.loop-at.at c.index-items-at.result _ _ c.loop-at-test.true c.index-items-at.is
    (c.loop-at.invariant key) (c.in_ok-add_item.ensures key)

pub returns : goal.returns
returns c = λ (key : List ℕ).
    c.loop-at.invariant key ∙ ap (numbers_from 0 (λ (item : KnownItem). is_under key item.text.now.name)) (take_all c.loop-at.at c.args.items.now c.loop-at-test.false)
    ∙ sym (numbers_from-map 0 seen_item (λ (item : DataItem). is_under key item.text.name) c.args.items.now)

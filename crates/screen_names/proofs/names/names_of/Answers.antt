use Rattle.std.proofs.Common.{◌≡◌, refl, ap, sym, ℕ, List, Some}
use Rattle.std.specs.Prelude.{slice_get}
use Rattle.std.proofs.lemmas.Option.{slice_get_read}
use Rattle.data_names.specs.Names.{is_under}
use Rattle.screen_names.specs.NameTable.{name_of}
use Rattle.screen_names.proofs.NamedItems.{one_more}
use Rattle.screen_names.proofs.names.names_of.Goals as goal

pub loop-number-preserved : goal.loop-number-preserved
loop-number-preserved c = λ (key : List ℕ).
    let number = c.loop-number.number in
    let here : slice_get c.args.items.now number ≡ Some c.index-items-number.result = slice_get_read c.args.items.now _ number _ refl c.loop-number-test.true c.index-items-number.is in
    one_more (λ n. is_under key (name_of (slice_get c.args.items.now n))) number (is_under key c.index-items-number.result.name) _ _ (ap (λ o. is_under key (name_of o)) (sym here))
    (c.loop-number.invariant key) (c.in_ok-add_item.ensures key)

use Rattle.std.proofs.Common.{◌≡◌, ◌∙◌, refl, ap, sym, arith, ◌-◌, ◌≤◌, ◌∷◌, length, ℕ, List, Some}
use Rattle.std.specs.Prelude.{slice_get}
use Rattle.std.proofs.lemmas.Option.{slice_get_read}
use Rattle.data_layout.specs.Occurrences.{around, around_item}
use Rattle.data_names.specs.Names.{ends_with}
use Rattle.screen_names.specs.NamePairs.{is_kept}
use Rattle.screen_names.proofs.NamedItems.{one_more}
use Rattle.screen_names.proofs.PairLists.{here, below}
use Rattle.screen_names.proofs.pairs.numbers_of.Goals as goal

pub loop-number-preserved : goal.loop-number-preserved
loop-number-preserved c = λ (key : List ℕ).
    let items = c.args.items.now in
    let number = c.loop-number.number in
    let item = c.index-items-number.result in
    let read : slice_get items number ≡ Some item = slice_get_read items _ number _ refl c.loop-number-test.true c.index-items-number.is in
    let itself : number ≤ number = omega arith in
    one_more (λ n. is_kept c.args.asked.now key (around_item items n)) number (is_kept c.args.asked.now key (item ∷ around (length items - 1) items item.parent)) _ _
    (ap (is_kept c.args.asked.now key) (sym (here items number item read))) (c.loop-number.invariant key)
    (c.in_ok-put_item.ensures (λ (other : List ℕ). ap (ends_with number) (c.loop-number.invariant other) ∙ below (λ n. is_kept c.args.asked.now other (around_item items n)) number number itself) key)

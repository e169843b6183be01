use Rattle.std.proofs.Common.{rules, ◌≡◌, sym, ◌∙◌, ap, subst, List, map, true, Bool}
use Rattle.std.specs.Prelude.{IsTrue}
use Rattle.std.specs.List.{AllZip}
use Rattle.data_layout.specs.declared.layout.Item.{Item}
use Rattle.data_names.specs.declared.known.KnownItem.{KnownItem}
use Rattle.data_names.specs.Items.{DataItem}
use Rattle.data_names.specs.Seen.{seen_item}
use Rattle.data_names.proofs.SameItems.{items_once}
use Rattle.opening_storage.specs.Opening.{CanHold}
use Rattle.opening_storage.specs.Filling.{all_hold}
use Rattle.opening_storage.proofs.Holding.{all_held, held_all}
use Rattle.opening_storage.proofs.whole.can_open.Goals as goal

is_true : (b : Bool) → IsTrue b → b ≡ true
is_true b h = search rules

true_is : (b : Bool) → b ≡ true → IsTrue b
true_is b h = search rules

pub returns : goal.returns
returns c =
    let items : List DataItem = map seen_item c.in_ok-items.items.items in
    let places = c.args.layout.now.items in
    let same : c.do_all_hold.result ≡ all_hold items places =
    c.do_all_hold.ensures ∙ ap (λ (xs : List KnownItem). all_hold (map seen_item xs) c.as_slice-4.result.now) c.as_slice-3.ensures.value ∙ ap (λ (ps : List Item). all_hold items ps) c.as_slice-4.ensures in (
      λ h. record { items = items; items_are = c.in_ok-items.ensures; held = all_held items places (sym same ∙ is_true c.do_all_hold.result h) },
      λ h.
          (let one : h.items ≡ items = items_once c.args.front.now h.items items h.items_are c.in_ok-items.ensures in
          true_is c.do_all_hold.result (same ∙ held_all items places (subst (λ (xs : List DataItem). AllZip CanHold xs places) one h.held))),
    )

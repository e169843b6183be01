use Rattle.std.proofs.Common.{◌≡◌, ◌<◌, ℕ, sym, ◌∙◌, ap, arith, List, map, length, get_or}
use Rattle.std.proofs.lemmas.List.{get_or-map, length-map}
use Rattle.data_names.specs.declared.known.KnownItem.{KnownItem}
use Rattle.data_names.specs.Seen.{seen_item}
use Rattle.opening_storage.specs.Filling.{Filled, closed}
use Rattle.opening_storage.proofs.Steps.{more_so_far, all_filled, all_given, held_at, as_many}
use Rattle.opening_storage.proofs.filling.fill_all.Goals as goal

seen_at : (xs : List KnownItem) (k : ℕ) (x : KnownItem) → k < length xs → x ≡ get_or xs k x → seen_item x ≡ get_or (map seen_item xs) k (seen_item x)
seen_at xs k x h e = ap seen_item e ∙ sym (get_or-map seen_item xs k x (seen_item x) h)

pub bounds-places-at : goal.bounds-places-at
bounds-places-at c = omega (arith, as_many (map seen_item c.args.items.now) c.args.places.now c.requires.held, length-map c.args.items.now seen_item)

pub enter-requires : goal.enter-requires
enter-requires c =
    held_at (map seen_item c.args.items.now) c.args.places.now c.loop-at.at (seen_item c.index-items-at.result) (get_or c.args.places.now c.loop-at.at c.index-places-at.result) c.requires.held
    (omega (arith, length-map c.args.items.now seen_item)) (seen_at c.args.items.now c.loop-at.at c.index-items-at.result (omega arith) c.index-items-at.is) (ap (get_or c.args.places.now c.loop-at.at) c.index-places-at.is)

pub loop-at-preserved : goal.loop-at-preserved
loop-at-preserved c =
    more_so_far (map seen_item c.args.items.now) c.args.facts.now c.args.places.now c.loop-at.at (seen_item c.index-items-at.result) c.index-facts-at.result (get_or c.args.places.now c.loop-at.at c.index-places-at.result) _ _ c.requires.facts
    (omega (arith, length-map c.args.items.now seen_item)) (omega arith) (omega (arith, as_many (map seen_item c.args.items.now) c.args.places.now c.requires.held, length-map c.args.items.now seen_item))
    (seen_at c.args.items.now c.loop-at.at c.index-items-at.result (omega arith) c.index-items-at.is) c.index-facts-at.is (ap (get_or c.args.places.now c.loop-at.at) c.index-places-at.is)
    c.loop-at.invariant c.in_ok-enter.ensures.filled c.in_ok-enter.ensures.sized

pub returns-clause-filled : goal.returns-clause-filled
returns-clause-filled c =
    let done = all_filled (map seen_item c.args.items.now) c.args.places.now c.loop-at.at _ (omega (arith, length-map c.args.items.now seen_item)) c.loop-at.invariant in
    ap (λ (filled : Filled). filled.bytes) c.in_ok-close.ensures ∙ ap (λ (filled : Filled). (closed filled).bytes) done

pub returns-clause-sized : goal.returns-clause-sized
returns-clause-sized c =
    all_given (map seen_item c.args.items.now) c.args.places.now c.loop-at.at _ (omega (arith, length-map c.args.items.now seen_item)) (as_many (map seen_item c.args.items.now) c.args.places.now c.requires.held) c.loop-at.invariant

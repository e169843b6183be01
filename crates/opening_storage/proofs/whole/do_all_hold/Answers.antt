use Rattle.std.proofs.Common.{◌≡◌, ◌+◌, ◌<◌, ℕ, sym, ◌∙◌, ap, arith, List, map, drop, length, get_or, false, true, ◌&&◌}
use Rattle.std.proofs.lemmas.List.{get_or-map, length-map}
use Rattle.data_layout.specs.declared.layout.Item.{Item}
use Rattle.data_names.specs.declared.known.KnownItem.{KnownItem}
use Rattle.data_names.specs.Seen.{seen_item}
use Rattle.opening_storage.specs.Filling.{all_hold, holds}
use Rattle.opening_storage.proofs.Holding.{hold_at, hold_end, hold_other}
use Rattle.opening_storage.proofs.whole.do_all_hold.Goals as goal

seen_at : (xs : List KnownItem) (k : ℕ) (x : KnownItem) → k < length xs → x ≡ get_or xs k x → seen_item x ≡ get_or (map seen_item xs) k (seen_item x)
seen_at xs k x h e = ap seen_item e ∙ sym (get_or-map seen_item xs k x (seen_item x) h)

step_at : (xs : List KnownItem) (places : List Item) (k : ℕ) (x : KnownItem) (p : Item) → k < length xs → k < length places → x ≡ get_or xs k x → p ≡ get_or places k p
    → all_hold (drop k (map seen_item xs)) (drop k places) ≡ (holds (seen_item x) p && all_hold (drop (k + 1) (map seen_item xs)) (drop (k + 1) places))
step_at xs places k x p l m i e =
    hold_at (map seen_item xs) places k (seen_item x) p (omega (arith, length-map xs seen_item)) m (seen_at xs k x l i) e

pub returns-then-items-places : goal.returns-then-items-places
returns-then-items-places c =
    sym (hold_other (map seen_item c.args.items.now) c.args.places.now (λ e. let same : length c.args.items.now ≡ length c.args.places.now = sym (length-map c.args.items.now seen_item) ∙ e in c.if-items-places.true same))

pub returns-then-not-does_hold : goal.returns-then-not-does_hold
returns-then-not-does_hold c =
    let step = step_at c.args.items.now c.args.places.now c.loop-at.at c.index-items-at.result c.index-places-at.result (omega arith) (omega arith) c.index-items-at.is c.index-places-at.is in
    let none : holds (seen_item c.index-items-at.result) c.index-places-at.result ≡ false = sym c.does_hold.ensures ∙ c.if-not-does_hold.true in
    sym (sym c.loop-at.invariant ∙ step ∙ ap (λ b. b && all_hold (drop (c.loop-at.at + 1) (map seen_item c.args.items.now)) (drop (c.loop-at.at + 1) c.args.places.now)) none)

pub loop-at-preserved : goal.loop-at-preserved
loop-at-preserved c =
    let step = step_at c.args.items.now c.args.places.now c.loop-at.at c.index-items-at.result c.index-places-at.result (omega arith) (omega arith) c.index-items-at.is c.index-places-at.is in
    let held : holds (seen_item c.index-items-at.result) c.index-places-at.result ≡ true = sym c.does_hold.ensures ∙ c.if-not-does_hold.false in
    sym (step ∙ ap (λ b. b && all_hold (drop (c.loop-at.at + 1) (map seen_item c.args.items.now)) (drop (c.loop-at.at + 1) c.args.places.now)) held) ∙ c.loop-at.invariant

pub returns : goal.returns
returns c = sym (sym c.loop-at.invariant ∙ hold_end (map seen_item c.args.items.now) c.args.places.now c.loop-at.at (omega (arith, length-map c.args.items.now seen_item)) (omega (arith, length-map c.args.items.now seen_item)))

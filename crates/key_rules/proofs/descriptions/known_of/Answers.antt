use Rattle.std.proofs.Common.{◌≡◌, ◌∙◌, ap, sym, arith, ◌+◌, ◌≤◌, ◌++◌, ◌∷◌, [], length, map, take}
use Rattle.std.proofs.lemmas.List.{take_more, length-take-le, length-map, map-append}
use Rattle.data_names.specs.declared.known.KnownItem.{KnownItem}
use Rattle.data_names.specs.Seen.{seen_item}
use Rattle.key_rules.proofs.descriptions.known_of.Goals as goal

pub loop-at-preserved : goal.loop-at-preserved
loop-at-preserved c =
    let xs = c.args.items.now in
    let at = c.loop-at.at in
    let x = c.index-items-at.result in
    let within : at ≤ length xs = omega arith in
    let more : map seen_item (take (at + 1) xs) ≡ map seen_item (take at xs) ++ seen_item x ∷ [] =
    ap (map seen_item) (take_more xs at x c.loop-at-test.true ∙ ap (λ (y : KnownItem). take at xs ++ y ∷ []) (sym c.index-items-at.is)) ∙ map-append seen_item (take at xs) (x ∷ []) in
    let count : length (map seen_item (take at xs)) ≡ at = length-map (take at xs) seen_item ∙ length-take-le at xs within in
    record {
      count = c.see.ensures.count ∙ c.loop-at.invariant.count;
      known = rw more (c.see.ensures.known (map seen_item (take at xs)) count c.loop-at.invariant.known);
    }

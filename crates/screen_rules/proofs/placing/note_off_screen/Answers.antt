use Rattle.std.proofs.Common.{◌≡◌, ◌∙◌, refl, ap, sym, subst, arith, ◌+◌, ◌<◌, ◌≤◌, List, [], ◌∷◌, ◌++◌, append-nil, length, take, drop, map}
use Rattle.std.proofs.lemmas.List.{get_or-map, length-map, take_more, drop_all}
use Rattle.entry_clauses.specs.ScreenItems.{ScreenItem}
use Rattle.entry_clauses.specs.SeenScreens.{seen_screen}
use Rattle.screen_rules.specs.Placing.{End, off_screen_after}
use Rattle.screen_rules.specs.SeenPlaces.{seen_end, IsPlacing}
use Rattle.name_rules.specs.Faults.{faults_at}
use Rattle.entry_clauses.proofs.ScreensOf.{from_here}
use Rattle.screen_rules.proofs.placing.note_off_screen.Goals as goal

pub loop-item-init : goal.loop-item-init
loop-item-init c = record {
  placing = record { line_is = refl; column_is = refl };
  found = ap (λ (last : End). c.args.faults.now.found.items ++ faults_at 11 (off_screen_after last [] (map seen_screen c.args.screens.now))) c.start.ensures;
}

pub loop-item-preserved : goal.loop-item-preserved
loop-item-preserved c =
    let xs = c.args.screens.now in
    let at = c.loop-item.item-index in
    let all : List ScreenItem = map seen_screen xs in
    let x : ScreenItem = seen_screen c.item-item.result in
    let within : at < length all = omega (arith, c.loop-item-test.true, length-map xs seen_screen) in
    let here = ap seen_screen c.item-item.is ∙ sym (get_or-map seen_screen xs at c.item-item.result x c.loop-item-test.true) in
    let more : take (at + 1) all ≡ take at all ++ x ∷ [] = take_more all at x within ∙ ap (λ (y : ScreenItem). take at all ++ y ∷ []) (sym here) in
    let rest : drop at all ≡ x ∷ drop (at + 1) all = from_here all at x within ∙ ap (λ (y : ScreenItem). y ∷ drop (at + 1) all) (sym here) in
    let made = c.in_ok-before.ensures (take at all) (drop (at + 1) all) c.loop-item.invariant.placing in
    let now = c.in_ok-before.before in
    record {
      placing = subst (λ (some : List ScreenItem). IsPlacing some now) (sym more) made.0;
      found = ap (λ (some : List ScreenItem). c.step.new.faults.found.items ++ faults_at 11 (off_screen_after (seen_end now.last) some (drop (at + 1) all))) more
          ∙ made.1
          ∙ ap (λ (some : List ScreenItem). c.loop-item.faults.found.items ++ faults_at 11 (off_screen_after (seen_end c.loop-item.before.last) (take at all) some)) (sym rest)
          ∙ c.loop-item.invariant.found;
    }

pub returns : goal.returns
returns c =
    let xs = c.args.screens.now in
    let at = c.loop-item.item-index in
    let all : List ScreenItem = map seen_screen xs in
    let past : length all ≤ at = omega (arith, c.loop-item-test.false, length-map xs seen_screen) in
    sym (append-nil c.loop-item.faults.found.items)
    ∙ ap (λ (some : List ScreenItem). c.loop-item.faults.found.items ++ faults_at 11 (off_screen_after (seen_end c.loop-item.before.last) (take at all) some)) (sym (drop_all at all past))
    ∙ c.loop-item.invariant.found

use Rattle.std.proofs.Common.{◌≡◌, ◌∙◌, sym, ap, subst, arith, ℕ, ◌+◌, ◌<◌, ◌≤◌, List, [], ◌∷◌, ◌++◌, take, map, length}
use Rattle.std.specs.List.{list_any}
use Rattle.std.proofs.lemmas.List.{get_or-map, length-map, take_more, take_all}
use Rattle.name_rules.specs.DoubleNames.{Declared, clashes}
use Rattle.name_rules.specs.SeenNames.{named_as, seen_class, seen_declared, AreKnownNames}
use Rattle.name_rules.specs.Faults.{faults_at}
use Rattle.name_rules.proofs.Later.{tested_after, tested_more, later_ones_are}
use Rattle.name_rules.proofs.double_names.note_clashes.Goals as goal

pub loop-one-preserved : goal.loop-one-preserved
loop-one-preserved c =
    let names = c.args.names.now in
    let at = c.loop-one.one-index in
    let x = c.one-item.result in
    let all : List Declared = map seen_declared names in
    let within : at < length all = omega (arith, c.loop-one-test.true, length-map names seen_declared) in
    let here : seen_declared x ≡ _ = ap seen_declared c.one-item.is ∙ sym (get_or-map seen_declared names at x (seen_declared x) c.loop-one-test.true) in
    let made = c.in_ok-clashes.ensures x.line (take at all) c.loop-one.invariant.known in
    let named = ap (λ (name : List ℕ). named_as x.line name (seen_class x.class)) c.as_bytes.ensures in
    let more : take (at + 1) all ≡ take at all ++ seen_declared x ∷ [] = take_more all at (seen_declared x) within ∙ ap (λ y. take at all ++ y ∷ []) (sym here) in
    record {
      known = subst (λ (some : List Declared). AreKnownNames some c.declare.new.self) (ap (λ (one : Declared). take at all ++ one ∷ []) named ∙ sym more) made.1;
      found = tested_more 3 (λ (one : Declared). one.line) (λ (before : List Declared) (one : Declared). list_any (λ (earlier : Declared). clashes earlier one) before) all at (seen_declared x) _ _ _ _ within here
          (made.0 ∙ ap (λ (one : Declared). list_any (λ (earlier : Declared). clashes earlier one) (take at all)) named) c.loop-one.invariant.found c.in_ok-note.ensures;
    }

pub returns : goal.returns
returns c =
    let all : List Declared = map seen_declared c.args.names.now in
    let past : length all ≤ c.loop-one.one-index = omega (arith, c.loop-one-test.false, length-map c.args.names.now seen_declared) in
    c.loop-one.invariant.found
    ∙ ap (λ (some : List Declared). c.args.faults.now.found.items ++ faults_at 3 (tested_after (λ (one : Declared). one.line) (λ (before : List Declared) (one : Declared). list_any (λ (earlier : Declared). clashes earlier one) before) [] some))
    (take_all c.loop-one.one-index all past)
    ∙ ap (λ lines. c.args.faults.now.found.items ++ faults_at 3 lines) (sym (later_ones_are all))

use Rattle.std.proofs.Common.{◌↔◌, ◌≤◌, not, subst, ap, ◌∙◌, arith}
use Rattle.std.specs.Prelude.{count_by, IsTrue}
use Rattle.perform_cycles.specs.Plain.{IsMarked, IsSpread}
use Rattle.perform_cycles.proofs.Spreading.{first_reached, stays, more_reached, none_new, back_is}
use Rattle.perform_cycles.proofs.plain.leads_back.Goals as goal

pub loop-marks-init : goal.loop-marks-init
loop-marks-init c = (
  first_reached c.args.count c.args.arrows.now c.requires.within c.args.paragraph c.in_ok-marks.marks.items c.in_ok-marks.ensures,
  c.count_unmarked-unmarked.ensures ∙ ap (count_by not) c.as_slice.ensures.value,
)

pub loop-marks-preserved : goal.loop-marks-preserved
loop-marks-preserved c =
    let spread : IsSpread c.args.arrows.now c.loop-marks.marks.items c.in_ok-next.next.items =
    subst (λ marks. IsSpread c.args.arrows.now marks c.in_ok-next.next.items) c.as_slice-in-loop-marks.ensures.value c.in_ok-next.ensures in (
      more_reached c.args.count c.args.arrows.now c.requires.within c.args.paragraph c.loop-marks.marks.items c.in_ok-next.next.items c.loop-marks.invariant.0 spread,
      c.count_unmarked-left.ensures ∙ ap (count_by not) c.as_slice-in-loop-marks-2.ensures.value,
    )

pub returns-then-unmarked-left : goal.returns-then-unmarked-left
returns-then-unmarked-left c =
    let marks = c.loop-marks.marks.items in
    let next = c.in_ok-next.next.items in
    let spread : IsSpread c.args.arrows.now marks next =
    subst (λ marks. IsSpread c.args.arrows.now marks next) c.as_slice-in-loop-marks.ensures.value c.in_ok-next.ensures in
    let fewest : count_by not marks ≤ count_by not next =
    omega (arith, c.if-unmarked-left.true, c.loop-marks.invariant.1, c.count_unmarked-left.ensures ∙ ap (count_by not) c.as_slice-in-loop-marks-2.ensures.value) in
    let still = none_new c.args.arrows.now marks next spread (stays c.args.count c.args.arrows.now c.requires.within marks next spread) fewest in
    let back = back_is c.args.count c.args.arrows.now c.requires.within c.args.paragraph marks c.loop-marks.invariant.0 still in
    let here : IsTrue c.is_marked.result ↔ IsMarked marks c.args.paragraph =
    subst (λ marks. IsTrue c.is_marked.result ↔ IsMarked marks c.args.paragraph) c.as_slice-then-unmarked-left.ensures.value c.is_marked.ensures in
    ((λ true_is. back.0 (here.0 true_is)), (λ path. here.1 (back.1 path)))

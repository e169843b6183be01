use Rattle.std.proofs.Common.{map, sym, subst}
use Rattle.perform_cycles.specs.Cycles.{AreMarks}
use Rattle.perform_cycles.proofs.Marked.{marks_are}
use Rattle.perform_cycles.proofs.cycles.shown_marks.Goals as goal

pub returns : goal.returns
returns c =
    let shown = marks_are c.args.arrows.now c.args.places.now (c.in_ok-is_right.ensures c.if-not-branch.false) in
    subst (AreMarks c.args.count c.args.arrows.now) (sym c.in_ok-marks.ensures)
    (subst (λ count. AreMarks count c.args.arrows.now (map (λ place. place.cyclic) c.args.places.now)) c.if-places-count.false shown)

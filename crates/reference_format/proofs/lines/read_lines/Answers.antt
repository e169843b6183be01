use Rattle.std.proofs.Common.{◌≡◌, ◌+◌, ◌≤◌, ◌∙◌, ◌++◌, length, arith}
use Rattle.std.proofs.lemmas.List.{append-nil}
use Rattle.reference_format.proofs.Reading.{kept, goes_on}
use Rattle.reference_format.proofs.lines.read_lines.Goals as goal
use Rattle.reference_format.proofs.lines.read_lines.Goals.{in-Some+in_ok-push, in_default}

pub loop-rest-preserved : goal.loop-rest-preserved
loop-rest-preserved c =
    let pushed : c.match-branch-2.lines ≡ c.loop-rest.lines ++ kept c.in_ok-line.field-0 = elim c.match-branch-2.branch [
      | in-Some+in_ok-push w ↦ rw w.in-Some.is (w.lines-is ∙ w.in_ok-push.ensures.ok)
      | in_default w ↦ rw (w.in_default.is, append-nil c.loop-rest.lines) w.lines-is
    ] in
    let counted : c.loop-rest.number + 1 + length c.cut_line.result.1.now ≤ length c.args.text.now + 1 = omega arith in
    let so_far = rw c.cut_line.ensures.lines at c.loop-rest.invariant.so_far in
    let first = rw c.columns-line.ensures at c.in_ok-line.ensures in
    record {
      so_far = rw (c.form_after-fixed.ensures, c.columns-line.ensures) (goes_on c.loop-rest.lines c.match-branch-2.lines c.in_ok-line.field-0 _ _ _ first pushed so_far);
      counted = counted;
    }

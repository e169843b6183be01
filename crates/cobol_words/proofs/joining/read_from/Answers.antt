use Rattle.std.proofs.Common.{[]}
use Rattle.std.proofs.lemmas.Result.{err_from_is_err_and}
use Rattle.cobol_words.specs.Text.{own_text}
use Rattle.cobol_words.specs.Cutting.{HasRead}
use Rattle.cobol_words.proofs.Joins.{first_wrong, first_refused, has_read, all_words}
use Rattle.cobol_words.proofs.joining.read_from.Goals as goal

pub returns-then-first : goal.returns-then-first
returns-then-first c = first_wrong c.args.first.now c.args.lines.now c.if-first.true

pub returns-in_err-read_text : goal.returns-in_err-read_text
returns-in_err-read_text c =
    let p = err_from_is_err_and c.from_residual.result c.from_residual.ensures.1 in
    rw (p.1, p.2) (first_refused c.in_err-read_text.field-0.0 c.new-cutter.result c.args.first.now c.args.lines.now _ c.if-first.false c.new-cutter.ensures.found
    (λ after. rw (c.trimmed.ensures, c.as_bytes.ensures) at (c.in_err-read_text.ensures.found after)))

pub returns : goal.returns
returns c =
    let own : HasRead c.read_text.new.cutter (own_text c.args.first.now) =
    has_read c.new-cutter.result c.read_text.new.cutter _ c.new-cutter.ensures.found (λ after. rw (c.trimmed.ensures, c.as_bytes.ensures) at (c.in_ok-read_text.ensures.found after)) in
    let read = c.in_ok-join_all.ensures.joined (own_text c.args.first.now) own in
    all_words c.join_all.new.cutter c.end_line.new.self c.args.first.now c.args.lines.now c.if-first.false read (c.in_ok-end_line.ensures.found []) c.in_ok-end_line.ensures.cut

use Rattle.std.proofs.Common.{arith}
use Rattle.std.proofs.lemmas.List.{drop_all}
use Rattle.std.proofs.lemmas.Result.{err_from_is_err_and}
use Rattle.cobol_words.proofs.Joins.{item_at, read_all, refused_on, joins_on}
use Rattle.cobol_words.proofs.joining.join_all.Goals as goal

pub returns-in_err-join-clause-joined : goal.returns-in_err-join-clause-joined
returns-in_err-join-clause-joined c text read =
    let p = err_from_is_err_and c.from_residual.result c.from_residual.ensures.1 in
    let e = item_at c.args.lines.now c.loop-line.line-index c.line-item.result (omega arith) c.line-item.is in
    rw (p.1, p.2) (refused_on c.in_err-join.field-0.0 c.loop-line.cutter _ c.loop-line.last.now c.line-item.result _ _ _ _ c.loop-line.invariant.kept e (c.loop-line.invariant.joined text read) c.in_err-join.ensures.found)

pub loop-line-preserved : goal.loop-line-preserved
loop-line-preserved c =
    let e = item_at c.args.lines.now c.loop-line.line-index c.line-item.result (omega arith) c.line-item.is in
    record {
      kept = c.in_ok-join.ensures.kept;
      joined = λ text read. joins_on c.loop-line.cutter c.join.new.cutter c.loop-line.last.now c.line-item.result _ _ _ c.loop-line.invariant.kept e (c.loop-line.invariant.joined text read) c.in_ok-join.ensures.found;
    }

pub returns-clause-joined : goal.returns-clause-joined
returns-clause-joined c text read =
    read_all c.loop-line.cutter c.loop-line.last.now _ _ (drop_all c.loop-line.line-index c.args.lines.now (omega arith)) (c.loop-line.invariant.joined text read)

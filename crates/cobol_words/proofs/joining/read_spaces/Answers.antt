use Rattle.std.proofs.Common.{◌≡◌, ◌+◌, ◌-◌, suc, subst, ◌∙◌, arith}
use Rattle.std.proofs.lemmas.Result.{err_from_is_err_and}
use Rattle.cobol_words.specs.declared.cutter.Stage.{Stage}
use Rattle.cobol_words.specs.Cutting.{IsAt}
use Rattle.cobol_words.proofs.Stages.{goes_err}
use Rattle.cobol_words.proofs.Trims.{quote_not_space}
use Rattle.cobol_words.proofs.joining.read_spaces.Goals as goal

pub returns-in_err-read_literal-clause-found : goal.returns-in_err-read_literal-clause-found
returns-in_err-read_literal-clause-found c after =
    let p = err_from_is_err_and c.from_residual.result c.from_residual.ensures.1 in
    let k : c.args.count - c.loop.counter ≡ suc (c.args.count - (c.loop.counter + 1)) = omega arith in
    let whole = rw k at (c.loop.invariant.found after) in
    rw (p.1, p.2) (goes_err c.in_err-read_literal.field-0.0 _ _ _ _ whole (c.in_err-read_literal.ensures.found _))

pub loop-preserved : goal.loop-preserved
loop-preserved c =
    let k : c.args.count - c.loop.counter ≡ suc (c.args.count - (c.loop.counter + 1)) = omega arith in
    let o = subst (λ (s : Stage). IsAt s c.loop.cutter.before c.loop.cutter.cells.items) c.loop.invariant.stage c.loop.invariant.kept in
    record {
      kept = c.in_ok-read_literal.ensures.kept;
      stage = c.in_ok-read_literal.ensures.stage (quote_not_space c.args.mark.byte o.quote) ∙ c.loop.invariant.stage;
      found = λ after. c.in_ok-read_literal.ensures.found _ ∙ rw k at (c.loop.invariant.found after);
    }

pub returns-clause-found : goal.returns-clause-found
returns-clause-found c after =
    let k : c.args.count - c.loop.counter ≡ 0 = omega arith in
    rw k at (c.loop.invariant.found after)

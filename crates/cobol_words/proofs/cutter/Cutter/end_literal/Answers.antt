use Rattle.std.proofs.lemmas.Result.{err_from_is_err_and}
use Rattle.cobol_words.proofs.Endings.{literal_cut, literal_refused}
use Rattle.cobol_words.proofs.cutter.Cutter.end_literal.Goals as goal

pub returns-in_err-word-clause-found : goal.returns-in_err-word-clause-found
returns-in_err-word-clause-found c text h =
    let p = err_from_is_err_and c.from_residual.result c.from_residual.ensures.1 in
    let self = c.args.self.now in
    rw (p.1, p.2, c.requires.stage) (literal_refused c.in_err-word.field-0.0 _ self.words self.before c.args.mark self.cells.items text c.requires.closed h (rw c.as_slice.ensures.value at c.in_err-word.ensures))

pub returns-clause-found : goal.returns-clause-found
returns-clause-found c text h =
    let self = c.args.self.now in
    rw (c.requires.stage, c.clear.ensures.items, c.in_ok-push.ensures.ok) (literal_cut self.words self.before c.args.mark self.cells.items text c.in_ok-word.word c.requires.closed h (rw c.as_slice.ensures.value at c.in_ok-word.ensures))

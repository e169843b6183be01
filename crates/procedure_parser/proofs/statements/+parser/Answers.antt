use Rattle.std.proofs.Common.{◌<◌, ◌∙◌, sym}
use Rattle.cob_base.specs.Form.{opens}
use Rattle.cob_base.specs.Statements.{statement, statements}
use Rattle.phrase_parser.specs.Reading.{read}
use Rattle.procedure_parser.proofs.StatementDispatch.{opens_statement_is, above}
use Rattle.procedure_parser.proofs.statements.+parser.Goals as goal

pub statements-returns : goal.statements-returns
unfolding statements
statements-returns t c =
    let some_may_open : 0 < c.args.depth = above c.args.depth c.if-depth-eq0.false in
    c.some.ensures (opens (statement c.args.depth)) (read (statement c.args.depth))
    (record { tells = λ w r h. h ∙ sym (opens_statement_is c.args.depth w.now some_may_open) }) (record { gives = λ alloc w r h. h.1 })

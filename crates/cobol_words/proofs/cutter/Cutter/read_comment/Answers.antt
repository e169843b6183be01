use Rattle.cobol_words.proofs.Endings.{comment_goes_on, comment_ends}
use Rattle.cobol_words.proofs.cutter.Cutter.read_comment.Goals as goal

pub returns-then-cell-end-clause-found : goal.returns-then-cell-end-clause-found
returns-then-cell-end-clause-found c text =
    let self = c.args.self.now in
    comment_goes_on self.words self.before self.stage self.cells.items c.args.end c.args.cell text c.requires.kept c.requires.stage c.if-cell-end.true

pub returns-clause-found : goal.returns-clause-found
returns-clause-found c text =
    let self = c.args.self.now in
    rw (comment_ends self.words self.before self.stage self.cells.items c.args.end c.args.cell text c.requires.kept c.requires.stage c.if-cell-end.false) (c.read_outside.ensures.found text)

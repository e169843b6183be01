use Rattle.std.proofs.Common.{subst}
use Rattle.cobol_words.specs.declared.cutter.Stage.{Stage}
use Rattle.cobol_words.specs.Cutting.{IsAt}
use Rattle.cobol_words.proofs.Endings.{open_at_end}
use Rattle.cobol_words.proofs.cutter.Cutter.end_line.Goals as goal

pub returns-in-Literal-clause-found : goal.returns-in-Literal-clause-found
returns-in-Literal-clause-found c text =
    let self = c.args.self.now in
    let o = subst (λ (s : Stage). IsAt s self.before self.cells.items) c.in-Literal.is c.requires in
    rw c.in-Literal.is (open_at_end self.words self.before c.in-Literal.mark self.cells.items text o)

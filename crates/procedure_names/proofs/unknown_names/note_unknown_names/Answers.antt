use Rattle.std.proofs.Common.{◌∙◌, ap, not, ◌++◌, List, map}
use Rattle.std.specs.Prelude.{filter}
use Rattle.cob_base.specs.declared.line.Line.{Line}
use Rattle.cob_base.specs.declared.statements.Located.{Located}
use Rattle.cob_base.specs.declared.statements.Statement.{Statement}
use Rattle.name_rules.specs.Faults.{faults_at}
use Rattle.statement_parts.specs.References.{names_of}
use Rattle.statement_parts.specs.Seen.{seen_all}
use Rattle.procedure_names.specs.Names.{is_known}
use Rattle.procedure_names.specs.Mentions.{Asked, asked}
use Rattle.procedure_names.specs.Scoped.{items_in}
use Rattle.procedure_names.proofs.Lent.{lent_within, lent_at, lent_past}
use Rattle.procedure_names.proofs.Noted.{lines_more, lines_all, lines_of_lists}
use Rattle.procedure_names.proofs.unknown_names.note_unknown_names.Goals as goal

pub loop-one-preserved : goal.loop-one-preserved
loop-one-preserved c =
    let scope = c.args.scope.now in
    let xs = c.args.statements.now in
    let at = c.loop-one.one-index in
    let test = λ (name : Asked). not (is_known scope.program.now (items_in scope) name.name) in
    let f = λ (one : Located Statement). map (λ (name : Asked). name.line) (filter test (map (asked one.line) (names_of one.item))) in
    lines_more 1 f (seen_all xs) at c.one-item.result.now _ _ _ (lent_within xs at c.loop-one-test.true) (lent_at xs at c.one-item.result c.loop-one-test.true c.one-item.is)
    c.loop-one.invariant c.in_ok-note_unknown_names_of.ensures

pub returns : goal.returns
returns c =
    let scope = c.args.scope.now in
    let xs = c.args.statements.now in
    let test = λ (name : Asked). not (is_known scope.program.now (items_in scope) name.name) in
    let named = λ (one : Located Statement). map (asked one.line) (names_of one.item) in
    let f = λ (one : Located Statement). map (λ (name : Asked). name.line) (filter test (named one)) in
    lines_all 1 f (seen_all xs) c.loop-one.one-index _ _ (lent_past xs c.loop-one.one-index c.loop-one-test.false) c.loop-one.invariant
    ∙ ap (λ (lines : List Line). c.args.faults.now.found.items ++ faults_at 1 lines) (lines_of_lists (λ (name : Asked). name.line) test named (seen_all xs))

use Rattle.cob_base.specs.declared.statements.Located.{Located}
use Rattle.cob_base.specs.declared.statements.Statement.{Statement}
use Rattle.statement_parts.specs.Seen.{seen_all}
use Rattle.procedure_rules.specs.Performed.{arrow_of}
use Rattle.procedure_rules.proofs.Arrows.{listed_more, listed_all}
use Rattle.procedure_names.proofs.Lent.{lent_within, lent_at, lent_past}
use Rattle.procedure_rules.proofs.performed.add_arrows_of.Goals as goal

pub loop-one-preserved : goal.loop-one-preserved
loop-one-preserved c =
    let xs = c.args.statements.now in
    let at = c.loop-one.one-index in
    listed_more (λ (one : Located Statement). arrow_of c.args.scope.now.program.now.paragraphs c.args.from one.item) (seen_all xs) at c.one-item.result.now _ c.loop-one.arrows.items c.add_arrow.new.arrows.items
    (lent_within xs at c.loop-one-test.true) (lent_at xs at c.one-item.result c.loop-one-test.true c.one-item.is) c.loop-one.invariant c.in_ok-add_arrow.ensures

pub returns : goal.returns
returns c =
    let xs = c.args.statements.now in
    listed_all (λ (one : Located Statement). arrow_of c.args.scope.now.program.now.paragraphs c.args.from one.item) (seen_all xs) c.loop-one.one-index _ c.loop-one.arrows.items
    (lent_past xs c.loop-one.one-index c.loop-one-test.false) c.loop-one.invariant

use Rattle.cob_base.specs.declared.statements.Located.{Located}
use Rattle.cob_base.specs.declared.statements.Statement.{Statement}
use Rattle.statement_parts.specs.Seen.{seen_all}
use Rattle.procedure_rules.specs.Reading.{has_bad_lock}
use Rattle.procedure_names.specs.Scoped.{front_in, items_in}
use Rattle.procedure_names.proofs.Lent.{lent_within, lent_at, lent_past}
use Rattle.procedure_names.proofs.Noted.{noted_more, noted_all}
use Rattle.procedure_rules.proofs.procedure_faults.note_bad_locks.Goals as goal

pub loop-one-preserved : goal.loop-one-preserved
loop-one-preserved c =
    let scope = c.args.known.now.scope.now in
    let xs = c.args.statements.now in
    let at = c.loop-one.one-index in
    noted_more 12 (λ (one : Located Statement). one.line) (λ (one : Located Statement). has_bad_lock (front_in scope) (items_in scope) one.item) (seen_all xs) at c.one-item.result.now _ _ _ _ (lent_within xs at c.loop-one-test.true)
    (lent_at xs at c.one-item.result c.loop-one-test.true c.one-item.is) c.in_ok-is_bad.ensures c.loop-one.invariant c.in_ok-note.ensures

pub returns : goal.returns
returns c =
    let scope = c.args.known.now.scope.now in
    let xs = c.args.statements.now in
    noted_all 12 (λ (one : Located Statement). one.line) (λ (one : Located Statement). has_bad_lock (front_in scope) (items_in scope) one.item) (seen_all xs) c.loop-one.one-index _ _ (lent_past xs c.loop-one.one-index c.loop-one-test.false) c.loop-one.invariant

use Rattle.data_names.specs.Seen.{seen_references}
use Rattle.cobol_checker.proofs.AlternateKeys.{keys_more}
use Rattle.cobol_checker.proofs.references.add_alternates.Goals as goal

pub loop-clause-preserved : goal.loop-clause-preserved
loop-clause-preserved c =
    keys_more c.args.clauses.now c.loop-clause.clause-index c.clause-item.result _ (seen_references c.args.all.now.items) (seen_references c.loop-clause.all.items) _ c.loop-clause-test.true c.clause-item.is
    c.alternate_key.ensures c.loop-clause.invariant c.in_ok-add_optional.ensures

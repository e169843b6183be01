use Rattle.key_rules.specs.Descriptions.{number_under}
use Rattle.key_rules.proofs.DescriptionsOf.{numbers-more}
use Rattle.key_rules.proofs.descriptions.numbers_of.Goals as goal

pub loop-number-preserved : goal.loop-number-preserved
loop-number-preserved c =
    numbers-more c.args.files.now c.loop-number.number c.index-files-number.result (number_under c.add_name.new.names) (number_under c.loop-number.names) c.loop-number-test.true c.index-files-number.is c.loop-number.invariant
    c.in_ok-add_name.ensures

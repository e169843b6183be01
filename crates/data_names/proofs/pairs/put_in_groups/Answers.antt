use Rattle.std.proofs.Common.{ℕ, List}
use Rattle.data_names.specs.Asked.{is_asked}
use Rattle.data_names.specs.Names.{numbers_under}
use Rattle.data_names.specs.Seen.{seen_name}
use Rattle.data_names.proofs.PairsOf.{groups_more}
use Rattle.data_names.proofs.pairs.put_in_groups.Goals as goal

pub loop-group-preserved : goal.loop-group-preserved
loop-group-preserved c = λ h (key : List ℕ).
    groups_more seen_name key c.args.name.now c.args.groups.now c.loop-group.group-index c.group-item.result (is_asked c.args.asked.now key) (numbers_under c.args.numbers.now key) _ _ c.args.at c.loop-group-test.true
    c.group-item.is (h key) (c.loop-group.invariant h key) (c.in_ok-put_in_group.ensures key)

use Rattle.name_rules.proofs.MentionsOf.{added_screen}
use Rattle.name_rules.proofs.mentions.add_screen.Goals as goal

pub returns : goal.returns
returns c =
    added_screen _ _ c.args.entry.now.clauses c.as_slice-clauses.result.now _ _ _ _ _ _ _ c.as_slice-clauses.ensures c.sender.ensures c.receiver.ensures c.both_ways.ensures
    c.in_ok-add_sender.ensures c.in_ok-add_optional.ensures c.in_ok-add_optional-2.ensures

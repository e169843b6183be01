use Rattle.name_rules.proofs.MentionsOf.{added_file}
use Rattle.name_rules.proofs.mentions.add_file.Goals as goal

pub returns : goal.returns
returns c =
    added_file _ _ c.args.file.now.clauses c.as_slice-clauses.result.now _ _ _ _ _ _ c.as_slice-clauses.ensures c.record_key.ensures c.file_status.ensures
    c.in_ok-add_optional.ensures c.in_ok-add_alternates.ensures c.in_ok-add_optional-2.ensures

use Rattle.picture_rule.proofs.ReadsBack.{reads_back}
use Rattle.picture_rule.proofs.law.edited_text_reads_back.Goals as goal

pub returns : goal.returns
returns c = reads_back

use Rattle.std.proofs.Common.{map}
use Rattle.cob_base.specs.declared.file_entries.FileEntry.{FileEntry}
use Rattle.name_rules.specs.Mentions.{mention, references_of_file}
use Rattle.name_rules.proofs.MentionsOf.{adds_step, adds_all}
use Rattle.name_rules.proofs.mentions.add_files.Goals as goal

pub loop-file-preserved : goal.loop-file-preserved
loop-file-preserved c =
    adds_step _ (λ (file : FileEntry). map (mention file.line) (references_of_file file)) c.args.files.now c.loop-file.file-index c.file-item.result c.args.mentions.now.items c.loop-file.mentions.items _ c.loop-file-test.true c.file-item.is c.loop-file.invariant c.in_ok-add_file.ensures

pub returns : goal.returns
returns c = adds_all _ (λ (file : FileEntry). map (mention file.line) (references_of_file file)) c.args.files.now c.loop-file.file-index c.args.mentions.now.items c.loop-file.mentions.items c.loop-file-test.false c.loop-file.invariant

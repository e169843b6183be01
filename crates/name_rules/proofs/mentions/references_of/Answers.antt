use Rattle.std.proofs.Common.{ap, map, List}
use Rattle.std.specs.List.{flat_map}
use Rattle.cob_base.specs.declared.divisions.CrtStatus.{CrtStatus}
use Rattle.cob_base.specs.declared.file_entries.FileEntry.{FileEntry}
use Rattle.cob_base.specs.declared.screen_entries.ScreenEntry.{ScreenEntry}
use Rattle.name_rules.specs.Mentions.{mention, references_of_file, references_of_screen, reference_of_crt}
use Rattle.name_rules.proofs.MentionsOf.{all_added}
use Rattle.name_rules.proofs.mentions.references_of.Goals as goal

pub returns : goal.returns
returns c =
    all_added _ _ _ _ _ _ _ _ _ _ _ c.new-mentions.ensures.items
    (ap (λ (files : List FileEntry). flat_map (λ (file : FileEntry). map (mention file.line) (references_of_file file)) files) c.files.ensures)
    (ap (λ (crts : List CrtStatus). map (λ (crt : CrtStatus). mention crt.line (reference_of_crt crt)) crts) c.crt_status.ensures)
    (ap (λ (entries : List ScreenEntry). flat_map (λ (entry : ScreenEntry). map (mention entry.line) (references_of_screen entry)) entries) c.screen_entries.ensures)
    c.in_ok-add_files.ensures c.in_ok-add_crt.ensures c.in_ok-add_screens.ensures

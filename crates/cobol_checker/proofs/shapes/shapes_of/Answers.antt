use Rattle.data_names.specs.Table.{items_of}
use Rattle.cobol_checker.proofs.SoundFiles.{sound_files}
use Rattle.std.proofs.Common.{sym, subst, List}
use Rattle.cob_base.specs.declared.file_entries.FileEntry.{FileEntry}
use Rattle.cobol_checker.specs.Sound.{AreSoundFiles}
use Rattle.cobol_checker.proofs.shapes.shapes_of.Goals as goal

pub shapes_in-requires-clause-sound : goal.shapes_in-requires-clause-sound
shapes_in-requires-clause-sound c =
    subst (λ (all : List FileEntry). AreSoundFiles c.args.front.now (items_of c.args.table.now) all) (sym c.files.ensures) (sound_files c.args.front.now (items_of c.args.table.now) c.requires.items c.requires.faultless)

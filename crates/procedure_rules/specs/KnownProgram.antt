-- What statements are judged by, as the definitions see it.
use Rattle.data_names.specs.Parts.{files}
use Rattle.value_rules.specs.JudgedConditions.{AreJudged}
use Rattle.procedure_rules.specs.KnownFiles.{AreKnownFiles}
use Rattle.procedure_names.specs.Scoped.{IsScope, front_in, items_in}
use Rattle.procedure_rules.specs.declared.known_program.KnownProgram.{KnownProgram}

-- The scope is its program's, the files are those of the front, and the 88 entries are judged.
pub record IsKnownProgram (known : KnownProgram) : Type 0 where
  pub scope : IsScope known.scope.now
  pub files : AreKnownFiles (items_in known.scope.now) (files (front_in known.scope.now)) known.files.items
  pub judged : AreJudged known.scope.now known.judged

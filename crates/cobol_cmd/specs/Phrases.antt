-- The words that a phrase wants.
use Rattle.std.specs.Prelude.{ℕ, List, map}
use Rattle.cob_base.specs.declared.word.Word.{Word}
use Rattle.cob_base.specs.declared.word.Word.TheVariants as words
use Rattle.cobol_cmd.specs.declared.small.Wanted.{Wanted}
use Rattle.cobol_cmd.specs.declared.small.Wanted.TheVariants.{Reserved, Number, Stop}
use Rattle.cobol_cmd.specs.Small.{named, whole}

-- the spelling that is wanted
abbrev pub wanted : Wanted → Word
wanted (Reserved name) = named name.now
wanted (Number number) = whole number
wanted Stop = words.Stop

-- What the steps of joining answer.
use Rattle.std.specs.Prelude.{List, ◌++◌, Result, Ok, Err, ◌≡◌}
use Rattle.cobol_words.specs.declared.cutter.Cutter.{Cutter}
use Rattle.cobol_words.specs.declared.fault.WordFault.{WordFault}
use Rattle.cobol_words.specs.declared.fault.WordFault.TheVariants as faults
use Rattle.cobol_words.specs.Joined.{Piece}
use Rattle.cobol_words.specs.Words.{at_start, found_in}
use Rattle.cobol_words.specs.Text.{words_or_fault}
use Rattle.cobol_words.specs.Cutting.{HasRead}

-- the whole text was read, or its first fault answers, whatever follows; want of memory alone says nothing
abbrev pub JoinsAll : Result (Unit {0}) WordFault → Cutter → List Piece → Type 0
JoinsAll (Ok done) cutter whole = HasRead cutter whole
JoinsAll (Err faults.NoMemory) cutter whole = Unit {0}
JoinsAll (Err fault) cutter whole = (after : List Piece) → words_or_fault (found_in at_start 0 (whole ++ after)) ≡ Err fault

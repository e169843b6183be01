-- The programs that `check` reads.
use Rattle.std.specs.Prelude.{◌≡◌, List, [], map}
use Rattle.cob_base.specs.declared.line.Line.{Line}
use Rattle.cob_base.specs.declared.word.Entry.{Entry}
use Rattle.cob_base.specs.declared.paragraphs.Program.{Program}
use Rattle.cob_base.specs.declared.parse_fault.Misfit.{Misfit}
use Rattle.cob_base.specs.Token.{seen_entry}
use Rattle.cob_base.specs.EntryForm.{Entries, Reads, line_of_stop}
use Rattle.cob_base.specs.Procedure.{program, StopsWhole}

-- the entries read as this program, and none is left
abbrev pub IsProgram : List Entry → Program → Type 0
IsProgram entries read = Reads program (map seen_entry entries) read []

-- the entries read as no program for this reason, which is told with this line
pub record IsNoProgram (entries : List Entry) (reason : Misfit) (line : Line) : Type 0 where
  pub at : Entries
  pub stops : StopsWhole program reason at (map seen_entry entries)
  pub in_line : line_of_stop (map seen_entry entries) at ≡ line

-- What a command makes of the text of a program.
use Rattle.std.specs.Prelude.{◌≡◌, ◌⊎◌, ℕ, List, Ok, Err}
use Rattle.cob_base.specs.declared.word.Spoken.{Spoken}
use Rattle.cob_base.specs.declared.line.Line.{Line}
use Rattle.cob_base.specs.declared.parse_fault.Misfit.{Misfit}
use Rattle.cob_base.specs.declared.line.SourceLine.{SourceLine}
use Rattle.cob_base.specs.Lines.{LinesOf}
use Rattle.cob_base.specs.declared.word.Entry.{Entry}
use Rattle.cob_base.specs.declared.paragraphs.Program.{Program}
use Rattle.cob_base.specs.declared.parse_fault.Misfit.TheVariants as misfits
use Rattle.cobol_words.specs.Text.{WordsOf}
use Rattle.cobol_words.specs.Entries.{EntriesOf}
use Rattle.cobol_words.specs.declared.fault.EntryFault.TheVariants.{NoStop}
use Rattle.cobol_cmd.specs.declared.command.Action.{Action}
use Rattle.cobol_cmd.specs.declared.command.Action.TheVariants.{Show, Check}
use Rattle.cobol_cmd.specs.declared.fault.ProgramFault.{ProgramFault}
use Rattle.cobol_cmd.specs.declared.fault.ProgramFault.TheVariants.{Lines, Words, Entries, Nesting, Profile, NoMemory}
use Rattle.cobol_cmd.specs.Small.{Small}
use Rattle.cobol_cmd.specs.Report.{small_report, in_profile}
use Rattle.cobol_cmd.specs.Checking.{IsProgram, IsNoProgram}
use Rattle.cobol_checker.specs.Outcome.{KeepsRules, IsRefused}

-- the words of a text
pub record HasWords (text : List ℕ) (words : List Spoken) : Type 0 where
  pub lines : List SourceLine
  pub has_lines : LinesOf text ≡ Ok lines
  pub has_words : WordsOf lines ≡ Ok words

-- the text has words, and they are those of no small program
pub record HasOtherWords (text : List ℕ) : Type 0 where
  pub words : List Spoken
  pub has_words : HasWords text words
  pub not_small : (line column : ℕ) (bytes : List ℕ) → Small words line column bytes → ⊥

-- the text has the words of a small program, whose report this is
pub record HasReport (text output : List ℕ) : Type 0 where
  pub words : List Spoken
  pub has_words : HasWords text words
  pub line : ℕ
  pub column : ℕ
  pub bytes : List ℕ
  pub small : Small words line column bytes
  pub is_report : output ≡ small_report line column bytes

-- the entries of a text
pub record HasEntries (text : List ℕ) (entries : List Entry) : Type 0 where
  pub words : List Spoken
  pub has_words : HasWords text words
  pub has_entries : EntriesOf words ≡ Ok entries

-- the text has words, of which the last is no separator period and begins in this line
pub record EndsEarly (text : List ℕ) (line : Line) : Type 0 where
  pub words : List Spoken
  pub has_words : HasWords text words
  pub no_entries : EntriesOf words ≡ Err (NoStop line)

-- the text has the entries of this program
pub record HasProgram (text : List ℕ) (read : Program) : Type 0 where
  pub entries : List Entry
  pub has_entries : HasEntries text entries
  pub program : IsProgram entries read

-- the text has entries, which read as no program for this reason
pub record HasNoProgram (text : List ℕ) (reason : Misfit) (line : Line) : Type 0 where
  pub entries : List Entry
  pub has_entries : HasEntries text entries
  pub no_program : IsNoProgram entries reason line

-- why entries are no program, where memory may run out
abbrev pub IsCheckFault : List Entry → ProgramFault → Type 0
IsCheckFault entries (Entries line) = IsNoProgram entries misfits.NoFit line
IsCheckFault entries (Nesting line) = IsNoProgram entries misfits.Nesting line
IsCheckFault entries NoMemory = Unit {0}
IsCheckFault entries _ = ⊥

-- what a command prints for a text
abbrev pub Prints : Action → List ℕ → List ℕ → Type 0
Prints Show text output = HasReport text output
Prints Check text output = (read : Program) × HasProgram text read × KeepsRules read × (output ≡ in_profile)

-- the fault for which a command refuses a text: the first of its lines, else the first of its words, else that of its entries
abbrev pub Fails : Action → ProgramFault → List ℕ → Type 0
Fails action (Lines fault) text = LinesOf text ≡ Err fault
Fails action (Words fault) text = (lines : List SourceLine) × (LinesOf text ≡ Ok lines) × (WordsOf lines ≡ Err fault)
Fails Show (Entries line) text = (line.0 ≡ 1) × HasOtherWords text
Fails Show (Nesting line) text = ⊥
Fails Show (Profile line reason) text = ⊥
Fails Check (Entries line) text = EndsEarly text line ⊎ HasNoProgram text misfits.NoFit line
Fails Check (Nesting line) text = HasNoProgram text misfits.Nesting line
Fails Check (Profile line reason) text = (read : Program) × HasProgram text read × IsRefused read (record { line = line; reason = reason })
Fails action NoMemory text = ⊥

-- the same, where memory may run out
abbrev pub FailsOrNoMemory : Action → ProgramFault → List ℕ → Type 0
FailsOrNoMemory action NoMemory text = Unit {0}
FailsOrNoMemory action fault text = Fails action fault text

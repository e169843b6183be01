-- What `parse_procedure` answers.
use Rattle.std.specs.Prelude.{◌≡◌, Bool, List, [], map, Result, Ok, Err}
use Rattle.cob_base.specs.declared.line.Line.{Line}
use Rattle.cob_base.specs.declared.parse_fault.Misfit.{Misfit}
use Rattle.cob_base.specs.declared.parse_fault.Misfit.TheVariants.{Nesting, NoFit}
use Rattle.cob_base.specs.declared.parse_fault.ParseFault.{ParseFault}
use Rattle.cob_base.specs.declared.parse_fault.ParseFault.TheVariants as faults
use Rattle.cob_base.specs.declared.word.Entry.{Entry}
use Rattle.cob_base.specs.declared.paragraphs.Procedure.{Procedure}
use Rattle.cob_base.specs.Token.{seen_entry}
use Rattle.cob_base.specs.EntryForm.{EntryForm, Entries, Reads, line_of_stop}
use Rattle.cob_base.specs.Procedure.{procedure, StopsWhole}

-- the entries do not read as a procedure division whole, for this reason, at a place of this line
pub record StopsAs (entries : List Entry) (reason : Misfit) (line : Line) : Type 0 where
  pub at : Entries
  pub stops : StopsWhole procedure reason at (map seen_entry entries)
  pub in_line : line_of_stop (map seen_entry entries) at ≡ line

abbrev pub Answers : List Entry → Result Procedure ParseFault → Type 0
Answers entries (Ok read) = Reads procedure (map seen_entry entries) read []
Answers entries (Err (faults.Nesting line)) = StopsAs entries Nesting line
Answers entries (Err (faults.NoEntry line)) = StopsAs entries NoFit line
Answers entries (Err faults.NoMemory) = Unit {0}

-- Entries read whole as one thing at most, and else they stop at one place for one reason at most, and never both. A place is all that is left from there on.
pub record IsDefinite {b : Bool} {A : Type 0} (f : EntryForm b A) : Type 0 where
  pub one_reading : (es : Entries) (first second : A) → Reads f es first [] → Reads f es second [] → first ≡ second
  pub one_stop : (es at place : Entries) (first second : Misfit) → StopsWhole f first at es → StopsWhole f second place es
      → (first ≡ second) × (at ≡ place)
  pub never_both : (es at : Entries) (read : A) (reason : Misfit) → Reads f es read [] → ¬ (StopsWhole f reason at es)

-- What `parse_front` answers.
use Rattle.std.specs.Prelude.{◌≡◌, ◌≤◌, List, length, map, drop, Result, Ok, Err}
use Rattle.cob_base.specs.declared.line.Line.{Line}
use Rattle.cob_base.specs.declared.parse_fault.Misfit.{Misfit}
use Rattle.cob_base.specs.declared.parse_fault.Misfit.TheVariants.{Nesting, NoFit}
use Rattle.cob_base.specs.declared.parse_fault.ParseFault.{ParseFault}
use Rattle.cob_base.specs.declared.parse_fault.ParseFault.TheVariants as faults
use Rattle.cob_base.specs.declared.word.Entry.{Entry}
use Rattle.cob_base.specs.declared.divisions.Front.{Front}
use Rattle.cob_base.specs.Token.{seen_entry}
use Rattle.cob_base.specs.EntryForm.{Entries, Reads, Stops, line_of_stop}
use Rattle.cob_base.specs.Front.{front}
use Rattle.division_parser.specs.declared.fronts.FrontRead.{FrontRead}

-- the first entries, so many of them, read as this front
pub record ReadsAs (entries : List Entry) (read : FrontRead) : Type 0 where
  pub within : read.used ≤ length entries
  pub reads : Reads front (map seen_entry entries) read.front (map seen_entry (drop read.used entries))

-- the entries stop before the front's end, for this reason, at a place of this line
pub record StopsAs (entries : List Entry) (reason : Misfit) (line : Line) : Type 0 where
  pub at : Entries
  pub stops : Stops front reason at (map seen_entry entries)
  pub in_line : line_of_stop (map seen_entry entries) at ≡ line

abbrev pub Answers : List Entry → Result FrontRead ParseFault → Type 0
Answers entries (Ok read) = ReadsAs entries read
Answers entries (Err (faults.Nesting line)) = StopsAs entries Nesting line
Answers entries (Err (faults.NoEntry line)) = StopsAs entries NoFit line
Answers entries (Err faults.NoMemory) = Unit {0}

-- entries read as one front at most, and they stop at one place for one reason at most, and never both; a place is all that is left from there on
pub record IsDefinite : Type 0 where
  pub one_front : (es rest more : Entries) (first second : Front) → Reads front es first rest → Reads front es second more → (first ≡ second) × (rest ≡ more)
  pub one_stop : (es at place : Entries) (first second : Misfit) → Stops front first at es → Stops front second place es → (first ≡ second) × (at ≡ place)
  pub never_both : (es rest at : Entries) (read : Front) (reason : Misfit) → Reads front es read rest → ¬ (Stops front reason at es)

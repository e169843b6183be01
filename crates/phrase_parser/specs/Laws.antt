-- What reading a form of entries has to do with what entries read as, and that this is one thing at most.
use Rattle.std.specs.Prelude.{◌≡◌, ◌++◌, Bool, List, [], ◌∷◌, Option, Some, None, Ok, Err}
use Rattle.cob_base.specs.declared.line.Line.{Line}
use Rattle.cob_base.specs.declared.parse_fault.Misfit.{Misfit}
use Rattle.cob_base.specs.EntryForm.{EntryForm, Entries, Reads, Stops}
use Rattle.phrase_parser.specs.EntryReading.{read_entries}

-- the line of the entry at a place, where there is one
abbrev pub line_at : Entries → Option Line
line_at [] = None
line_at (e ∷ es) = Some e.line

-- these are the last of those
abbrev pub AreLast : Entries → Entries → Type 0
AreLast rest es = (taken : Entries) × (es ≡ taken ++ rest)

-- reading gives exactly what entries read as, up to the same rest, and stops exactly where they stop, for the same reason and with the
-- line of the entry there
pub record IsExact {b : Bool} {A : Type 0} (f : EntryForm b A) : Type 0 where
  pub reads : (es : Entries) (x : A) (rest : Entries) → read_entries f es ≡ Ok (x, rest) → Reads f es x rest
  pub is_read : (es : Entries) (x : A) (rest : Entries) → Reads f es x rest → read_entries f es ≡ Ok (x, rest)
  pub stops : (es : Entries) (reason : Misfit) (line : Option Line) → read_entries f es ≡ Err (reason, line)
      → (at : Entries) × Stops f reason at es × (line ≡ line_at at)
  pub is_stopped : (es at : Entries) (reason : Misfit) → Stops f reason at es → read_entries f es ≡ Err (reason, line_at at)
  pub rest_is_last : (es : Entries) (x : A) (rest : Entries) → Reads f es x rest → AreLast rest es

-- entries read as one thing at most, up to one rest, or stop at one place for one reason at most, and never both
pub record IsDefinite {b : Bool} {A : Type 0} (f : EntryForm b A) : Type 0 where
  pub one_reading : (es rest more : Entries) (first second : A) → Reads f es first rest → Reads f es second more → (first ≡ second) × (rest ≡ more)
  pub one_stop : (es at place : Entries) (first second : Misfit) → Stops f first at es → Stops f second place es → (first ≡ second) × (at ≡ place)
  pub never_both : (es rest at : Entries) (read : A) (reason : Misfit) → Reads f es read rest → ¬ (Stops f reason at es)

-- Reading a form of entries from the first to the last: what the parser is held against. The grammar does not rest on it.
use Rattle.std.specs.Prelude.{◌≡◌, Bool, false, [], ◌∷◌, Option, Some, None, Result, Ok, Err}
use Rattle.cob_base.specs.declared.parse_fault.Misfit.{Misfit}
use Rattle.cob_base.specs.declared.parse_fault.Misfit.TheVariants.{NoFit}
use Rattle.cob_base.specs.declared.line.Line.{Line}
use Rattle.cob_base.specs.declared.tokens.SeenEntry.{SeenEntry}
use Rattle.cob_base.specs.Form.{Words}
use Rattle.cob_base.specs.EntryForm.{EntryForm, Entries, begins}
use Rattle.phrase_parser.specs.declared.faults.EntryFault.{EntryFault}
use Rattle.phrase_parser.specs.declared.faults.EntryFault.TheVariants as faults
use Rattle.phrase_parser.specs.Reading.{Read, Outcome, ◌>>=◌, read_some, read_optional, read}

-- why entries stop, and the line of the entry where they do
abbrev pub Stop : Type 0
Stop = Misfit × Option Line

abbrev pub EntryOutcome : Type 0 → Type 0
EntryOutcome A = Read SeenEntry Stop A

-- What a function returned, seen by view, is what reading gives, unless memory ran out.
abbrev pub EntryFails : {Y : Type 0} → EntryFault → Result Y Stop → Type 0
EntryFails faults.NoMemory outcome = Unit {0}
EntryFails (faults.Stops reason line) outcome = outcome ≡ Err (reason, line)

abbrev pub EntryGives : {X Y : Type 0} → (X → Y) → Result X EntryFault → Result Y Stop → Type 0
EntryGives view (Ok x) outcome = outcome ≡ Ok (view x)
EntryGives view (Err e) outcome = EntryFails e outcome

-- all words of an entry are read
abbrev pub read_whole : {A : Type 0} → Line → Entries → Outcome A → EntryOutcome A
read_whole line es (Ok (x, [])) = Ok (x, es)
read_whole line es (Ok (x, v ∷ w)) = Err (NoFit, Some line)
read_whole line es (Err reason) = Err (reason, Some line)

abbrev pub read_entry : {A : Type 0} → (Line → Words → Outcome A) → Entries → EntryOutcome A
read_entry one [] = Err (NoFit, None)
read_entry one (e ∷ es) = read_whole e.line es (one e.line e.tokens)

abbrev pub read_entries : {b : Bool} {A : Type 0} → EntryForm b A → Entries → EntryOutcome A
read_entries (EntryForm.entry f) es = read_entry (λ line. read (f line)) es
read_entries (EntryForm.both f g) es = read_entries f es >>= λ x. read_entries g x.1 >>= λ y. Ok ((x.0, y.0), y.1)
read_entries (EntryForm.after f g) es = read_entries f es >>= λ x. read_entries g x.1
read_entries (EntryForm.made h f) es = read_entries f es >>= λ x. Ok (h x.0, x.1)
read_entries (EntryForm.optional f) es = read_optional (begins f es) (read_entries f es) es
read_entries (EntryForm.some f) es = read_some (begins f) (read_entries f) es

-- whether the words of the next entry open something
abbrev pub first_opens : (Words → Bool) → Entries → Bool
first_opens opened [] = false
first_opens opened (e ∷ es) = opened e.tokens

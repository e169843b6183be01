-- From reading to what `parse_front` answers.
use Rattle.std.proofs.Common.{◌≡◌, ℕ, ◌+◌, ◌-◌, ◌≤◌, List, [], ◌∷◌, ◌++◌, length, map, drop, Option, Ok, Err, refl, sym, ap, subst, ◌∙◌, length-append, arith}
use Rattle.std.proofs.lemmas.List.{length-map, drop-map}
use Rattle.cob_base.specs.declared.line.Line.{Line}
use Rattle.cob_base.specs.declared.parse_fault.Misfit.{Misfit}
use Rattle.cob_base.specs.declared.parse_fault.Misfit.TheVariants.{Nesting, NoFit}
use Rattle.cob_base.specs.declared.word.Entry.{Entry}
use Rattle.cob_base.specs.declared.divisions.Front.{Front}
use Rattle.cob_base.specs.Token.{seen_entry}
use Rattle.cob_base.specs.EntryForm.{Entries, Reads, Stops, line_of_stop}
use Rattle.cob_base.specs.Front.{front}
use Rattle.phrase_parser.specs.EntryReading.{read_entries}
use Rattle.phrase_parser.specs.Laws.{line_at, IsExact}
use Rattle.division_parser.specs.Answer.{ReadsAs, StopsAs, Answers}
use Rattle.phrase_parser.specs.Faults.{line_or_last, fault_of}

pub line_at_is : (es at : Entries) → line_or_last es (line_at at) ≡ line_of_stop es at
line_at_is es [] = refl
line_at_is es (e ∷ at) = refl

pub stops_as : IsExact front → (entries : List Entry) (reason : Misfit) (line : Option Line) → read_entries front (map seen_entry entries) ≡ Err (reason, line)
    → StopsAs entries reason (line_or_last (map seen_entry entries) line)
stops_as exact entries reason line h =
    let s = exact.stops (map seen_entry entries) reason line h in
    record { at = s.0; stops = s.1; in_line = sym (line_at_is (map seen_entry entries) s.0) ∙ ap (line_or_last (map seen_entry entries)) (sym s.2) }

pub answers_fault : IsExact front → (entries : List Entry) (reason : Misfit) (line : Option Line) → read_entries front (map seen_entry entries) ≡ Err (reason, line)
    → Answers entries (Err (fault_of (map seen_entry entries) reason line))
answers_fault exact entries Nesting line h = stops_as exact entries Nesting line h
answers_fault exact entries NoFit line h = stops_as exact entries NoFit line h

past-all : (taken rest : Entries) → drop (length taken) (taken ++ rest) ≡ rest
past-all [] rest = refl
past-all (e ∷ taken) rest = past-all taken rest

past-taken : (taken rest : Entries) (n : ℕ) → n ≡ length taken → drop n (taken ++ rest) ≡ rest
past-taken taken rest n e = rw e (past-all taken rest)

long-is : (entries : List Entry) (taken rest : Entries) → map seen_entry entries ≡ taken ++ rest → length entries ≡ length taken + length rest
long-is entries taken rest whole = sym (length-map entries seen_entry) ∙ ap length whole ∙ length-append taken rest

rest-is : (entries : List Entry) (taken rest : Entries) (used : ℕ) → map seen_entry entries ≡ taken ++ rest → used ≡ length entries - length rest → rest ≡ map seen_entry (drop used entries)
rest-is entries taken rest used whole e =
    let n : used ≡ length taken = omega (arith, e, long-is entries taken rest whole) in
    let dropped : drop used (map seen_entry entries) ≡ rest = ap (drop used) whole ∙ past-taken taken rest used n in
    sym dropped ∙ drop-map seen_entry used entries

pub reads_as : IsExact front → (entries : List Entry) (read : Front) (rest : Entries) (used : ℕ) → read_entries front (map seen_entry entries) ≡ Ok (read, rest) → used ≡ length entries - length rest
    → ReadsAs entries (record { front = read; used = used })
reads_as exact entries read rest used h e =
    let r : Reads front (map seen_entry entries) read rest = exact.reads (map seen_entry entries) read rest h in
    let taken = exact.rest_is_last (map seen_entry entries) read rest r in
    let P : Entries → Type 0 = λ v. Reads front (map seen_entry entries) read v in
    record { within = omega (arith, e); reads = subst P (rest-is entries taken.0 rest used taken.1 e) r }

pub fewer : IsExact front → (entries : List Entry) (read : Front) (rest : Entries) → read_entries front (map seen_entry entries) ≡ Ok (read, rest) → length rest ≤ length entries
fewer exact entries read rest h =
    let taken = exact.rest_is_last (map seen_entry entries) read rest (exact.reads (map seen_entry entries) read rest h) in
    omega (arith, long-is entries taken.0 rest taken.1)

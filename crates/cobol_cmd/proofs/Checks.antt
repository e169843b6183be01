-- A front with a procedure division behind it, against the grammar of a program.
use Rattle.std.proofs.Common.{◌≡◌, ◌⊎◌, ℕ, suc, zero, List, [], ◌∷◌, refl, sym, ◌∙◌, ap, subst, inl, inr, map, take, drop, length, length-drop, ◌-◌, arith}
use Rattle.std.specs.Prelude.{None, Ok}
use Rattle.std.proofs.lemmas.List.{take_all, drop-map}
use Rattle.cob_base.specs.declared.line.Line.{Line}
use Rattle.cob_base.specs.declared.word.Entry.{Entry}
use Rattle.cob_base.specs.declared.tokens.SeenEntry.{SeenEntry}
use Rattle.cob_base.specs.declared.divisions.Front.{Front}
use Rattle.cob_base.specs.declared.paragraphs.Procedure.{Procedure}
use Rattle.cob_base.specs.declared.parse_fault.Misfit.{Misfit}
use Rattle.cob_base.specs.declared.parse_fault.Misfit.TheVariants.{Nesting, NoFit}
use Rattle.cob_base.specs.Token.{seen_entry}
use Rattle.cob_base.specs.EntryForm.{EntryForm, Entries, Reads, Stops, last_line, line_of_stop}
use Rattle.cob_base.specs.Front.{front}
use Rattle.cob_base.specs.Procedure.{procedure, sentences_of, sentence, paragraph, header, end_program, program, program_of, StopsWhole}
use Rattle.procedure_parser.specs.Answer.{IsDefinite}
use Rattle.procedure_parser.specs.Answer as behind
use Rattle.division_parser.specs.Answer as before
use Rattle.division_parser.specs.declared.fronts.FrontRead.{FrontRead}
use Rattle.cobol_cmd.specs.Checking.{IsProgram, IsNoProgram}
use Rattle.cobol_cmd.specs.Programs.{HasProgram}
use Rattle.cob_base.specs.declared.paragraphs.Program.{Program}
use Rattle.name_rules.specs.declared.fault.Fault.{Fault}
use Rattle.cobol_checker.specs.Outcome.{IsRefused}
use Rattle.cobol_checker.specs.declared.fault.CheckFault.{CheckFault}
use Rattle.cobol_checker.specs.declared.fault.CheckFault.TheVariants as checks

not_nil : {A : Type 0} (x : A) (xs : List A) → ¬ (x ∷ xs ≡ [])
not_nil x xs same = absurd (cc same)

-- the last line of entries is that of what is left of them, where something is
last-behind : (es : Entries) (n : ℕ) → ¬ (drop n es ≡ []) → last_line es ≡ last_line (drop n es)
last-behind [] zero some = refl
last-behind [] (suc n) some = refl
last-behind (e ∷ es) zero some = refl
last-behind (e ∷ []) (suc zero) some = absurd (some refl)
last-behind (e ∷ []) (suc (suc n)) some = absurd (some refl)
last-behind (e ∷ (f ∷ es)) (suc n) some = last-behind (f ∷ es) n some

-- no entries at all are a procedure division
reads-nothing : Reads procedure [] (record { paragraphs = []; end_program = None }) []
unfolding procedure sentences_of sentence paragraph header end_program
reads-nothing = (([], ([], None)), ([], (None, (refl, refl), refl), ([], (None, (refl, refl), refl), (refl, refl))), refl)

module _ (law : IsDefinite procedure) where
  -- where a procedure division stops, the line is that of the whole entries too
  pub same_line : (es : Entries) (n : ℕ) (rest at : Entries) (reason : Misfit) → drop n es ≡ rest → StopsWhole procedure reason at rest → line_of_stop es at ≡ line_of_stop rest at
  same_line es n rest (e ∷ at) reason is stops = refl
  same_line es n [] [] reason is stops = absurd (law.never_both [] [] (record { paragraphs = []; end_program = None }) reason reads-nothing stops)
  same_line es n (r ∷ rest) [] reason is stops =
      last-behind es n (λ none. not_nil r rest (sym is ∙ none)) ∙ ap last_line is

-- a front and a procedure division are a program
pub is_program : (es rest : Entries) (before : Front) (division : Procedure) → Reads front es before rest → Reads procedure rest division []
    → Reads program es (program_of (before, division)) []
unfolding program
is_program es rest before division reads behind = ((before, division), (rest, reads, behind), refl)

-- where a procedure division stops, so does the program
pub stops_program : (es rest at : Entries) (before : Front) (reason : Misfit) → Reads front es before rest → StopsWhole procedure reason at rest → StopsWhole program reason at es
unfolding program
stops_program es rest at before Nesting reads stops = inr (before, rest, reads, stops)
stops_program es rest at before NoFit reads (inl stops) = inl (inr (before, rest, reads, stops))
stops_program es rest at before NoFit reads (inr (division, behind, more)) = inr (program_of (before, division), ((before, division), (rest, reads, behind), refl), more)

-- where a front stops, so does the program
pub stops_front : (es at : Entries) (reason : Misfit) → Stops front reason at es → StopsWhole program reason at es
unfolding program
stops_front es at Nesting stops = inl stops
stops_front es at NoFit stops = inl (inl stops)

-- the entries behind so many of them, as a slice of their own length
pub all_behind : (entries : List Entry) (used : ℕ) → take (length entries - used) (drop used entries) ≡ drop used entries
all_behind entries used = take_all (length entries - used) (drop used entries) (omega (arith, length-drop used entries))

-- entries with a front, behind which no procedure division stands to the end, are no program
pub no_program : IsDefinite procedure → (entries : List Entry) (read : FrontRead) (reason : Misfit) (line : Line) → before.ReadsAs entries read
    → behind.StopsAs (drop read.used entries) reason line → IsNoProgram entries reason line
no_program law entries read reason line front stops = record {
  at = stops.at;
  stops = stops_program _ _ _ _ reason front.reads stops.stops;
  in_line = same_line law (map seen_entry entries) read.used (map seen_entry (drop read.used entries)) stops.at reason (drop-map seen_entry read.used entries) stops.stops ∙ stops.in_line;
}

-- entries with no front are no program
pub no_front : (entries : List Entry) (reason : Misfit) (line : Line) → before.StopsAs entries reason line → IsNoProgram entries reason line
no_front entries reason line stops = record { at = stops.at; stops = stops_front _ _ reason stops.stops; in_line = stops.in_line }

-- a program that is refused for a rule, as its line and reason are told
pub rule_broken : (text : List ℕ) (read : Program) (fault : CheckFault) (line told_line : Line) (reason told_reason : ℕ) → HasProgram text read → fault ≡ checks.Reason line reason
    → told_line ≡ line → told_reason ≡ reason → (fault ≡ checks.NoMemory) ⊎ ((least : Fault) × (fault ≡ checks.Reason least.line least.reason) × IsRefused read least)
    → (found : Program) × HasProgram text found × IsRefused found (record { line = told_line; reason = told_reason })
rule_broken text read fault line told_line reason told_reason has is line_is reason_is (inl none) =
    let both : checks.Reason line reason ≡ checks.NoMemory = sym is ∙ none in absurd (cc both)
rule_broken text read fault line told_line reason told_reason has is line_is reason_is (inr (least, told, refused)) =
    let same : checks.Reason line reason ≡ checks.Reason least.line least.reason = sym is ∙ told in
    let lines : told_line ≡ least.line = cc (same, line_is) in
    let reasons : told_reason ≡ least.reason = cc (same, reason_is) in
    (read, has, rw (lines, reasons) refused)

-- a procedure division that the entries behind a front read as makes a program with it
pub with_division : (entries : List Entry) (read : FrontRead) (division : Procedure) (whole : Program) → before.ReadsAs entries read
    → behind.Answers (take (length entries - read.used) (drop read.used entries)) (Ok division) → whole ≡ program_of (read.front, division) → IsProgram entries whole
with_division entries read division whole front answers whole_is =
    let rest : Reads procedure (map seen_entry (drop read.used entries)) division [] =
    subst (λ es. Reads procedure (map seen_entry es) division []) (all_behind entries read.used) answers in
    subst (IsProgram entries) (sym whole_is) (is_program _ _ _ _ front.reads rest)

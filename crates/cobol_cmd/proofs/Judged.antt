-- A text that a command refuses is not one for which it prints something.
use Rattle.std.proofs.Common.{rules, ◌≡◌, ◌⊎◌, ℕ, ◌≤◌, ◌<◌, [], ◌∷◌, map, List, refl, sym, ◌∙◌, ap, subst, inl, inr, arith, length}
use Rattle.std.specs.Prelude.{Option, Some, None, Result, Ok, Err, IfSome}
use Rattle.cob_base.specs.declared.line.Line.{Line}
use Rattle.cob_base.specs.declared.word.Spoken.{Spoken}
use Rattle.cob_base.specs.declared.word.Entry.{Entry}
use Rattle.cob_base.specs.declared.paragraphs.Program.{Program}
use Rattle.cob_base.specs.Token.{seen_entry}
use Rattle.procedure_parser.specs.Answer.{IsDefinite}
use Rattle.cob_base.specs.Procedure.{program, StopsWhole}
use Rattle.cob_base.specs.declared.parse_fault.Misfit.{Misfit}
use Rattle.cob_base.specs.declared.parse_fault.Misfit.TheVariants as misfits
use Rattle.cobol_words.specs.Entries.{EntriesOf}
use Rattle.cobol_words.specs.declared.fault.EntryFault.TheVariants.{NoStop}
use Rattle.cob_base.specs.declared.line.SourceLine.{SourceLine}
use Rattle.cob_base.specs.Lines.{LinesOf}
use Rattle.cobol_words.specs.Text.{WordsOf}
use Rattle.outside_world.specs.declared.shelf.Held.{Held}
use Rattle.outside_world.specs.Causes.{Rose}
use Rattle.outside_world.specs.Stored.{lookup}
use Rattle.std.specs.Io.KnownBytes.{Appends}
use Rattle.outside_world.specs.Bytes.{AppendsPrefix}
use Rattle.cobol_cmd.specs.declared.answer.Answer.{Answer}
use Rattle.cobol_cmd.specs.declared.answer.Answer.TheVariants.{Done, BadWords, Refused, Missing, ReadFault, WriteFault, TooLong, NoMemory}
use Rattle.cobol_cmd.specs.declared.command.Action.{Action}
use Rattle.cobol_cmd.specs.declared.command.Action.TheVariants.{Show, Check}
use Rattle.cobol_cmd.specs.declared.fault.ProgramFault.{ProgramFault}
use Rattle.cobol_cmd.specs.declared.fault.ProgramFault.TheVariants as faults
use Rattle.cobol_cmd.specs.Commands.{Command}
use Rattle.cobol_checker.specs.Outcome as checks
use Rattle.name_rules.specs.declared.fault.Fault.{Fault}
use Rattle.cobol_cmd.specs.Checking.{IsProgram}
use Rattle.cobol_cmd.specs.Small.{Small}
use Rattle.cobol_cmd.specs.Programs.{HasWords, HasEntries, EndsEarly, HasProgram, HasNoProgram, Prints, Fails}
use Rattle.cobol_cmd.specs.Answers.{Call, Says, Tells, IsRead, IsRefused, IsTooLong, Refuses, status_of, source_limit}

-- a program that keeps the rules is not refused
abbrev pub IsKeptAlone : Type 0
IsKeptAlone = (kept : Program) (fault : Fault) → checks.KeepsRules kept → checks.IsRefused kept fault → ⊥

-- a text has one list of lines
same_lines : (text : List ℕ) (lines others : List SourceLine) → LinesOf text ≡ Ok lines → LinesOf text ≡ Ok others → lines ≡ others
same_lines text lines others one two =
    let same : Ok lines ≡ Ok others = sym one ∙ two in
    cc same

-- a text has one list of words
pub same_words : (text : List ℕ) (words others : List Spoken) → HasWords text words → HasWords text others → words ≡ others
same_words text words others one two =
    let lines : one.lines ≡ two.lines = same_lines text one.lines two.lines one.has_lines two.has_lines in
    let same : Ok words ≡ Ok others = sym one.has_words ∙ ap WordsOf lines ∙ two.has_words in
    cc same

early_not_entries : (text : List ℕ) (line : Line) (entries : List Entry) → EndsEarly text line → HasEntries text entries → ⊥
early_not_entries text line entries early has =
    let same : early.words ≡ has.words = same_words text early.words has.words early.has_words has.has_words in
    let both : Err (NoStop line) ≡ Ok entries = sym early.no_entries ∙ ap EntriesOf same ∙ has.has_entries in
    cc both

same_entries : (text : List ℕ) (entries others : List Entry) → HasEntries text entries → HasEntries text others → entries ≡ others
same_entries text entries others one two =
    let same : one.words ≡ two.words = same_words text one.words two.words one.has_words two.has_words in
    let both : Ok entries ≡ Ok others = sym one.has_entries ∙ ap EntriesOf same ∙ two.has_entries in
    cc both

program_not_none : IsDefinite program → (text : List ℕ) (reason : Misfit) (line : Line) (read : Program) → HasProgram text read → HasNoProgram text reason line → ⊥
program_not_none law text reason line read is none =
    let same : none.entries ≡ is.entries = same_entries text none.entries is.entries none.has_entries is.has_entries in
    let P : List Entry → Type 0 = λ l. StopsWhole program reason none.no_program.at (map seen_entry l) in
    law.never_both (map seen_entry is.entries) none.no_program.at read reason is.program (subst P same none.no_program.stops)

same_program : IsDefinite program → (text : List ℕ) (read other : Program) → HasProgram text read → HasProgram text other → read ≡ other
same_program law text read other one two =
    let same : one.entries ≡ two.entries = same_entries text one.entries two.entries one.has_entries two.has_entries in
    law.one_reading (map seen_entry two.entries) read other (subst (λ l. IsProgram l read) same one.program) two.program

pub never_both : IsDefinite program → IsKeptAlone → (action : Action) (fault : ProgramFault) (text output : List ℕ) → Prints action text output → Fails action fault text → ⊥
never_both law alone Show (faults.Lines fault) text output prints fails =
    let both : Ok prints.has_words.lines ≡ Err fault = sym prints.has_words.has_lines ∙ fails in
    cc both
never_both law alone Show (faults.Words fault) text output prints fails =
    let lines = same_lines text prints.has_words.lines fails.0 prints.has_words.has_lines fails.1 in
    let both : Ok prints.words ≡ Err fault = sym prints.has_words.has_words ∙ ap WordsOf lines ∙ fails.2 in
    cc both
never_both law alone Show (faults.Entries line) text output prints fails =
    let other = fails.1 in
    let same : prints.words ≡ other.words = same_words text prints.words other.words prints.has_words other.has_words in
    let P : List Spoken → Type 0 = λ words. Small words prints.line prints.column prints.bytes in
    other.not_small prints.line prints.column prints.bytes (subst P same prints.small)
never_both law alone Show (faults.Nesting line) text output prints fails = fails
never_both law alone Show (faults.Profile line reason) text output prints fails = fails
never_both law alone Show faults.NoMemory text output prints fails = fails
never_both law alone Check (faults.Lines fault) text output prints fails =
    let words = prints.1.has_entries.has_words in
    let both : Ok words.lines ≡ Err fault = sym words.has_lines ∙ fails in
    cc both
never_both law alone Check (faults.Words fault) text output prints fails =
    let words = prints.1.has_entries.has_words in
    let lines = same_lines text words.lines fails.0 words.has_lines fails.1 in
    let both : Ok prints.1.has_entries.words ≡ Err fault = sym words.has_words ∙ ap WordsOf lines ∙ fails.2 in
    cc both
never_both law alone Check (faults.Entries line) text output prints (inl early) = early_not_entries text line prints.1.entries early prints.1.has_entries
never_both law alone Check (faults.Entries line) text output prints (inr other) = program_not_none law text misfits.NoFit line prints.0 prints.1 other
never_both law alone Check (faults.Nesting line) text output prints fails = program_not_none law text misfits.Nesting line prints.0 prints.1 fails
never_both law alone Check (faults.Profile line reason) text output prints fails =
    let same : fails.0 ≡ prints.0 = same_program law text fails.0 prints.0 fails.1 prints.1 in
    let P : Program → Type 0 = λ p. checks.IsRefused p (record { line = line; reason = reason }) in
    alone prints.0 (record { line = line; reason = reason }) prints.2 (subst P same fails.2)
never_both law alone Check faults.NoMemory text output prints fails = fails

-- what is held is a text for which a command prints something, so it doesn't refuse it
held_not_refused : IsDefinite program → IsKeptAlone → (action : Action) (fault : ProgramFault) (found : Option (List ℕ)) (text output : List ℕ) → found ≡ Some text → Prints action text output → IsRefused action fault found → ⊥
held_not_refused law alone action fault None text output is prints refused = refused
held_not_refused law alone action fault (Some other) text output is prints refused =
    let same : other ≡ text = cc is in
    let P : List ℕ → Type 0 = λ words. Fails action fault words in
    never_both law alone action fault text output prints (subst P same refused.1)

none_not_refused : (action : Action) (fault : ProgramFault) (found : Option (List ℕ)) → found ≡ None → IsRefused action fault found → ⊥
none_not_refused action fault None is refused = refused
none_not_refused action fault (Some text) is refused = absurd (cc is)

long_not_refused : (action : Action) (fault : ProgramFault) (found : Option (List ℕ)) → IsTooLong found → IsRefused action fault found → ⊥
long_not_refused action fault None long refused = refused
long_not_refused action fault (Some text) long refused = absurd (omega (arith, long, refused.0))

none_is_not_some : (found : Option (List ℕ)) (text : List ℕ) → found ≡ None → found ≡ Some text → ⊥
none_is_not_some found text none some =
    let both : Some text ≡ None = sym some ∙ none in
    cc both

short_is_not_long : (found : Option (List ℕ)) (text : List ℕ) → IsTooLong found → found ≡ Some text → length text ≤ source_limit → ⊥
short_is_not_long None text long some short = long
short_is_not_long (Some other) text long some short =
    let same : other ≡ text = cc some in
    let P : List ℕ → Type 0 = λ bytes. source_limit < length bytes in
    absurd (omega (arith, subst P same long, short))

module _ (law : IsDefinite program) (alone : IsKeptAlone) (asked : Command) (files : List Held) (reads reads_now puts puts_now : ℕ) (taken taken_now : Option (List ℕ)) where
  abbrev call : Option (List Held) → Call
  call held = record { held = held; reads = reads; reads_now = reads_now; puts = puts; puts_now = puts_now; taken = taken; taken_now = taken_now }

  refused_says : (answer : Answer) (fault : ProgramFault) → Says answer asked (call (Some files)) → IsRefused asked.action fault (lookup asked.name files)
      → (status_of answer ≡ 3) ⊎ (status_of answer ≡ 6) ⊎ (status_of answer ≡ 9)
  refused_says Done fault says refused = absurd (held_not_refused law alone asked.action fault (lookup asked.name files) says.0 says.1 says.2.is_held says.2.prints refused)
  refused_says BadWords fault says refused = absurd says.0
  refused_says (Refused other) fault says refused = search rules
  refused_says Missing fault says refused = absurd (none_not_refused asked.action fault (lookup asked.name files) says.0 refused)
  refused_says ReadFault fault says refused = search rules
  refused_says WriteFault fault says refused = absurd (held_not_refused law alone asked.action fault (lookup asked.name files) says.0 says.1 says.2.is_held says.2.prints refused)
  refused_says TooLong fault says refused = absurd (long_not_refused asked.action fault (lookup asked.name files) says.0 refused)
  refused_says NoMemory fault says refused = search rules

  pub refused_tells : (answer : Answer) (fault : ProgramFault) (command : Option Command) (held : Option (List Held)) → Tells answer command (call held) → command ≡ Some asked → held ≡ Some files
      → IsRefused asked.action fault (lookup asked.name files) → (status_of answer ≡ 3) ⊎ (status_of answer ≡ 6) ⊎ (status_of answer ≡ 9)
  refused_tells answer fault command held tells is_asked is_held refused =
      let P : Option Command → Type 0 = λ c. Tells answer c (call held) in
      let Q : Option (List Held) → Type 0 = λ h. Says answer asked (call h) in
      refused_says answer fault (subst Q is_held (subst P is_asked tells)) refused

  complete_says : (answer : Answer) (text output : List ℕ) → Says answer asked (call (Some files)) → lookup asked.name files ≡ Some text → length text ≤ source_limit → Prints asked.action text output
      → (Rose reads reads_now → ⊥) → (Rose puts puts_now → ⊥) → (status_of answer ≡ 0) ⊎ (status_of answer ≡ 9)
  complete_says Done text output says found short prints no_read no_put = inl refl
  complete_says BadWords text output says found short prints no_read no_put = absurd says.0
  complete_says (Refused fault) text output says found short prints no_read no_put =
      let P : Option (List ℕ) → Type 0 = λ other. IsRefused asked.action fault other in
      absurd (held_not_refused law alone asked.action fault (lookup asked.name files) text output found prints (subst P (sym says.0.is_held) (says.0.short, says.0.fails)))
  complete_says Missing text output says found short prints no_read no_put = absurd (none_is_not_some (lookup asked.name files) text says.0 found)
  complete_says ReadFault text output says found short prints no_read no_put = absurd (no_read says.0)
  complete_says WriteFault text output says found short prints no_read no_put = absurd (no_put says.3)
  complete_says TooLong text output says found short prints no_read no_put = absurd (short_is_not_long (lookup asked.name files) text says.0 found short)
  complete_says NoMemory text output says found short prints no_read no_put = inr refl

  pub complete_tells : (answer : Answer) (text output : List ℕ) (command : Option Command) (held : Option (List Held)) → Tells answer command (call held) → command ≡ Some asked → held ≡ Some files
      → lookup asked.name files ≡ Some text → length text ≤ source_limit → Prints asked.action text output
      → (Rose reads reads_now → ⊥) → (Rose puts puts_now → ⊥) → (status_of answer ≡ 0) ⊎ (status_of answer ≡ 9)
  complete_tells answer text output command held tells is_asked is_held =
      let P : Option Command → Type 0 = λ c. Tells answer c (call held) in
      let Q : Option (List Held) → Type 0 = λ h. Says answer asked (call h) in
      complete_says answer text output (subst Q is_held (subst P is_asked tells))

  -- the status 3 comes only where the shelf's text is refused
  only_says : (answer : Answer) → Says answer asked (call (Some files)) → status_of answer ≡ 3 → (fault : ProgramFault) × IsRefused asked.action fault (lookup asked.name files)
  only_says Done says is = absurd (omega (arith, is))
  only_says BadWords says is = absurd says.0
  only_says (Refused fault) says is =
      let P : Option (List ℕ) → Type 0 = λ found. IsRefused asked.action fault found in
      (fault, subst P (sym says.0.is_held) (says.0.short, says.0.fails))
  only_says Missing says is = absurd (omega (arith, is))
  only_says ReadFault says is = absurd (omega (arith, is))
  only_says WriteFault says is = absurd (omega (arith, is))
  only_says TooLong says is = absurd (omega (arith, is))
  only_says NoMemory says is = absurd (omega (arith, is))

  pub only_tells : (answer : Answer) (command : Option Command) (held : Option (List Held)) → Tells answer command (call held) → command ≡ Some asked → held ≡ Some files
      → status_of answer ≡ 3 → (fault : ProgramFault) × IsRefused asked.action fault (lookup asked.name files)
  only_tells answer command held tells is_asked is_held =
      let P : Option Command → Type 0 = λ c. Tells answer c (call held) in
      let Q : Option (List Held) → Type 0 = λ h. Says answer asked (call h) in
      only_says answer (subst Q is_held (subst P is_asked tells))

-- ---- the statuses 0 and 7 come only where a text was read

module _ (held : Option (List Held)) (reads reads_now puts puts_now : ℕ) (taken taken_now : Option (List ℕ)) where
  abbrev any_call : Call
  any_call = record { held = held; reads = reads; reads_now = reads_now; puts = puts; puts_now = puts_now; taken = taken; taken_now = taken_now }

  done_says : (answer : Answer) (asked : Command) → Says answer asked any_call → status_of answer ≡ 0
      → (text output : List ℕ) × IsRead held asked text output × Appends taken taken_now output
  done_says Done asked says is = says
  done_says BadWords asked says is = absurd says.0
  done_says (Refused fault) asked says is = absurd (omega (arith, is))
  done_says Missing asked says is = absurd (omega (arith, is))
  done_says ReadFault asked says is = absurd (omega (arith, is))
  done_says WriteFault asked says is = absurd (omega (arith, is))
  done_says TooLong asked says is = absurd (omega (arith, is))
  done_says NoMemory asked says is = absurd (omega (arith, is))

  pub done_tells : (answer : Answer) (command : Option Command) → Tells answer command any_call → status_of answer ≡ 0
      → (asked : Command) × (text output : List ℕ) × (command ≡ Some asked) × IsRead held asked text output × Appends taken taken_now output
  done_tells answer None tells is =
      let two : 2 ≡ 0 = sym (ap status_of tells.0) ∙ is in
      absurd (omega (arith, two))
  done_tells answer (Some asked) tells is =
      let done = done_says answer asked tells is in
      (asked, done.0, done.1, refl, done.2, done.3)

  cut_says : (answer : Answer) (asked : Command) → Says answer asked any_call → status_of answer ≡ 7
      → (text output : List ℕ) × IsRead held asked text output × AppendsPrefix taken taken_now output
  cut_says Done asked says is = absurd (omega (arith, is))
  cut_says BadWords asked says is = absurd says.0
  cut_says (Refused fault) asked says is = absurd (omega (arith, is))
  cut_says Missing asked says is = absurd (omega (arith, is))
  cut_says ReadFault asked says is = absurd (omega (arith, is))
  cut_says WriteFault asked (text, output, read, rose, prefix) is = (text, output, read, prefix)
  cut_says TooLong asked says is = absurd (omega (arith, is))
  cut_says NoMemory asked says is = absurd (omega (arith, is))

  pub cut_tells : (answer : Answer) (command : Option Command) → Tells answer command any_call → status_of answer ≡ 7
      → (asked : Command) × (text output : List ℕ) × (command ≡ Some asked) × IsRead held asked text output × AppendsPrefix taken taken_now output
  cut_tells answer None tells is =
      let two : 2 ≡ 7 = sym (ap status_of tells.0) ∙ is in
      absurd (omega (arith, two))
  cut_tells answer (Some asked) tells is = with_asked (cut_says answer asked tells is)
    where
      with_asked : (text output : List ℕ) × IsRead held asked text output × AppendsPrefix taken taken_now output
          → (found : Command) × (text output : List ℕ) × (Some asked ≡ Some found) × IsRead held found text output × AppendsPrefix taken taken_now output
      with_asked (text, output, read, prefix) = (asked, text, output, refl, read, prefix)

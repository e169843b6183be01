-- The grammar of statements. The number says how many statements and parentheses may still open.
use Rattle.std.specs.Prelude.{ℕ, zero, suc, Bool, true, false, if◌then◌else◌, List, [], ◌∷◌, Option, Some, None}
use denote.Enum.Bare.{sameb}
use Rattle.cob_base.specs.contracts.keywords.Verb as of_verb
use Rattle.cob_base.specs.declared.keywords.Keyword.{Keyword}
use Rattle.cob_base.specs.declared.keywords.Keyword.TheVariants as k
use Rattle.cob_base.specs.declared.keywords.Verb.{Verb}
use Rattle.cob_base.specs.declared.keywords.Verb.TheVariants as v
use Rattle.cob_base.specs.declared.keywords.Mark.TheVariants as marks
use Rattle.cob_base.specs.declared.line.Line.{Line}
use Rattle.cob_base.specs.declared.tokens.Token.{Token}
use Rattle.cob_base.specs.declared.tokens.Token.TheVariants as tokens
use Rattle.cob_base.specs.declared.operands.Operand.{Operand}
use Rattle.cob_base.specs.declared.operands.Operand.TheVariants as operands
use Rattle.cob_base.specs.declared.operands.Reference.{Reference}
use Rattle.cob_base.specs.declared.statements.Located.{Located}
use Rattle.cob_base.specs.declared.statements.ConditionalPhrases.{ConditionalPhrases}
use Rattle.cob_base.specs.declared.statements.Division.{Division}
use Rattle.cob_base.specs.declared.statements.Division.TheVariants as divisions
use Rattle.cob_base.specs.declared.statements.Statement.{Statement}
use Rattle.cob_base.specs.declared.statements.Statement.TheVariants as s
use Rattle.cob_base.specs.Form.{Form, Words, before, many, is_there}
use Rattle.cob_base.specs.Form.Form.{word, mark, part, opened_by, nothing, up_to, both, after, made, either, optional, some, too_deep}
use Rattle.cob_base.specs.Phrases.{is_text, is_stop, key_for, key, sign, noise, name, record_or_records, outside_within, reference, constant, operand}
use Rattle.cob_base.specs.Expressions.{expr}
use Rattle.cob_base.specs.Conditions.{cond}
use Rattle.cob_base.specs.StatementPhrases.{size_error, invalid_key, at_end, exception, else_part, repeated, retry, locking, lock, by_key, into, from, direction, open_phrase, place}

-- ---- verbs

-- `==` on verbs
unfoldable pub same_verb : Verb → Verb → Bool
same_verb = sameb of_verb.the_type

-- a verb stands for the line in which it begins
abbrev pub is_verb : Verb → Token → Option Line
is_verb want (tokens.Verb have line) = if same_verb have want then Some line else None
is_verb want _ = None

abbrev pub verb : Verb → Form true Line
verb want = mark (is_verb want)

-- all words up to the period
unfoldable pub to_period : Form false (Unit {0})
to_period = up_to (λ token. is_there (is_stop token))

-- ---- receivers of arithmetic

-- GIVING, or plain receivers
abbrev pub Receivers : Type 0
Receivers = Option Operand × List Reference

-- the operand before GIVING and the receivers, or the receivers alone
abbrev pub of_reference : Reference × (Bool × List Reference) → Receivers
of_reference (item, (true, given)) = (Some (operands.Reference item), given)
of_reference (item, (false, more)) = (None, item ∷ more)

-- the operands but for the last, and the last
abbrev pub but_last : Operand → List Operand → List Operand × Operand
but_last only [] = ([], only)
but_last first (second ∷ more) = (first ∷ (but_last second more).0, (but_last second more).1)

-- In ADD with GIVING and without TO, the last of the operands before GIVING is the second operand.
abbrev pub add_parts : Operand × (List Operand × (Bool × Receivers)) → List Operand × Receivers
add_parts (first, (more, (false, to))) = (first ∷ more, to)
add_parts (first, (more, (true, (u, given)))) = ((but_last first more).0, (Some (but_last first more).1, given))

module _ (d : ℕ) where
  -- ref+
  unfoldable pub references : Form true (List Reference)
  references = some (reference d)

  -- operand+
  unfoldable pub operand_list : Form true (List Operand)
  operand_list = some (operand d)

  -- GIVING ref+
  unfoldable pub giving : Form true (List Reference)
  giving = after (key k.Giving) references

  -- after a reference: GIVING ref+, or more receivers
  unfoldable pub giving_or_more : Form false (Bool × List Reference)
  giving_or_more = either (made (λ given. (true, given)) giving) (made (λ more. (false, more)) (many (reference d)))

  -- operand GIVING ref+
  unfoldable pub operand_giving : Form true Receivers
  operand_giving = made (λ (second, given). (Some second, given)) (both (operand d) giving)

  -- ref+ | ref GIVING ref+
  unfoldable pub reference_receivers : Form true Receivers
  reference_receivers = made of_reference (both (reference d) giving_or_more)

  -- constant GIVING ref+
  unfoldable pub constant_receivers : Form true Receivers
  constant_receivers = made (λ (second, given). (Some (operands.Constant second), given)) (both constant giving)

  -- ref+ | operand GIVING ref+
  unfoldable pub receivers : Form true Receivers
  receivers = either reference_receivers constant_receivers

  -- ---- the operands of arithmetic

  -- TO ref+ | TO operand GIVING ref+
  unfoldable pub to_receivers : Form true Receivers
  to_receivers = after (key k.To) receivers

  -- GIVING ref+, or TO and what follows it: the Bool says that it is GIVING without TO
  unfoldable pub to_or_giving : Form true (Bool × Receivers)
  to_or_giving = either (made (λ to. (false, to)) to_receivers) (made (λ given. (true, (None, given))) giving)

  -- after the first operand of ADD: more of them, and TO or GIVING
  unfoldable pub several_added : Form true (List Operand × (Bool × Receivers))
  several_added = both operand_list to_or_giving

  -- after the first operand of ADD: more of them, or TO
  unfoldable pub after_first_added : Form true (List Operand × (Bool × Receivers))
  after_first_added = either several_added (made (λ to. ([], (false, to))) to_receivers)

  -- operand+ TO ref+ | operand+ [TO] operand GIVING ref+
  unfoldable pub added : Form true (List Operand × Receivers)
  added = made add_parts (both (operand d) after_first_added)

  -- operand+ FROM ref+ | operand+ FROM operand GIVING ref+
  unfoldable pub subtracted : Form true (List Operand × Receivers)
  subtracted = both operand_list (after (key k.From) receivers)

  -- operand BY ref+ | operand BY operand GIVING ref+
  unfoldable pub multiplied : Form true (Operand × Receivers)
  multiplied = both (operand d) (after (key k.By) receivers)

  -- INTO ref+ | INTO operand GIVING ref+
  unfoldable pub into_receivers : Form true Receivers
  into_receivers = after (key k.Into) receivers

  -- INTO ref+ | INTO operand GIVING ref+ | BY operand GIVING ref+
  unfoldable pub into_or_by : Form true (Division × Receivers)
  into_or_by = either (made (λ to. (divisions.Into, to)) into_receivers)
      (made (λ to. (divisions.By, to)) (after (key k.By) operand_giving))

  -- operand INTO ref+ | operand (INTO|BY) operand GIVING ref+
  unfoldable pub divided : Form true (Operand × (Division × Receivers))
  divided = both (operand d) into_or_by

-- ---- nodes of arithmetic

abbrev pub Phrases : Type 0
Phrases = ConditionalPhrases (Located Statement)

abbrev pub add_node : (List Operand × Receivers) × Phrases → Statement
add_node ((operand_list, (None, to)), handled) = s.Add operand_list to handled
add_node ((operand_list, (Some second, given)), handled) = s.AddGiving operand_list second given handled

abbrev pub subtract_node : (List Operand × Receivers) × Phrases → Statement
subtract_node ((operand_list, (None, to)), handled) = s.Subtract operand_list to handled
subtract_node ((operand_list, (Some second, given)), handled) = s.SubtractGiving operand_list second given handled

abbrev pub multiply_node : (Operand × Receivers) × Phrases → Statement
multiply_node ((first, (None, to)), handled) = s.Multiply first to handled
multiply_node ((first, (Some second, given)), handled) = s.MultiplyGiving first second given handled

abbrev pub divide_node : (Operand × (Division × Receivers)) × Phrases → Statement
divide_node ((first, (manner, (None, to))), handled) = s.Divide first to handled
divide_node ((first, (manner, (Some second, given))), handled) = s.DivideGiving first manner second given handled

-- ---- PERFORM, EXIT and DISPLAY

-- PERFORM takes a paragraph's name exactly where a name comes next and the word after it is none of TIMES, OF, IN and (
abbrev pub after_paragraph : Words → Bool
after_paragraph (tokens.Key k.Times ∷ w) = false
after_paragraph (tokens.Key k.Of ∷ w) = false
after_paragraph (tokens.Mark marks.LeftParenthesis ∷ w) = false
after_paragraph _ = true

abbrev pub names_paragraph : Token → Words → Bool
names_paragraph (tokens.Name n) w = after_paragraph w
names_paragraph _ w = false

-- the words after EXIT that make it an outside statement: PERFORM, PARAGRAPH, PROGRAM, FUNCTION, METHOD and SECTION
abbrev pub exit_word : Token → Option (Unit {0})
exit_word (tokens.Verb v.Perform line) = Some tt
exit_word (tokens.Key k.OutsideExitWord) = Some tt
exit_word (tokens.Key k.Program) = Some tt
exit_word (tokens.Key k.Section) = Some tt
exit_word _ = None

abbrev pub exit_node : Option (Unit {0}) → Statement
exit_node (Some u) = s.Outside
exit_node None = s.Exit

-- ---- statements without statements in them, each by what follows its verb: d parentheses may open in it

-- MOVE operand TO ref+
unfoldable pub move_rest : ℕ → Form true Statement
move_rest d = made (λ (what, to). s.Move what to) (both (operand d) (after (key k.To) (references d)))

-- THRU|THROUGH name
unfoldable pub through : Form true (List ℕ)
through = after (key k.Through) name

-- PERFORM name [(THRU|THROUGH) name] [loop]
unfoldable pub perform_paragraphs : ℕ → Form true Statement
perform_paragraphs d = opened_by names_paragraph
    (made (λ (first, (last, often)). s.PerformParagraphs first last often) (both name (both (optional through) (optional (repeated d)))))

-- OPEN (mode [SHARING [WITH] sharing] [retry] name+)+
unfoldable pub open_rest : ℕ → Form true Statement
open_rest d = made s.Open (some (open_phrase d))

-- CLOSE name+
unfoldable pub close_rest : Form true Statement
close_rest = made s.Close (some name)

-- RECORD|RECORDS
unfoldable pub record_word : Form true (Unit {0})
record_word = mark (key_for record_or_records)

-- UNLOCK name [RECORD|RECORDS]
unfoldable pub unlock_rest : Form true Statement
unlock_rest = made s.Unlock (before name (optional record_word))

-- DISPLAY name [END-DISPLAY], or an outside statement where a literal follows
unfoldable pub display_rest : Form true Statement
display_rest = either (made (λ u. s.Outside) (after (word is_text) to_period)) (made s.Display (before name (noise k.EndDisplay)))

unfoldable pub continue_rest : Form false Statement
continue_rest = made (λ u. s.Continue) nothing

-- EXIT, or an outside statement where one of its words follows
unfoldable pub exit_rest : Form false Statement
exit_rest = made exit_node (optional (outside_within exit_word))

-- STOP RUN
unfoldable pub stop_rest : Form true Statement
stop_rest = made (λ u. s.StopRun) (key k.Run)

-- an outside statement, with all words up to the period
unfoldable pub outside_rest : Form false Statement
outside_rest = made (λ u. s.Outside) to_period

-- ---- statements with statements in them, each of them a `one`: d more statements and parentheses may open

module _ (d : ℕ) (one : Form true (Located Statement)) where
  -- ADD operand+ TO ref+ size [END-ADD] | ADD operand+ [TO] operand GIVING ref+ size [END-ADD]
  unfoldable pub add_rest : Form true Statement
  add_rest = made add_node (both (added d) (before (size_error one) (noise k.EndAdd)))

  -- SUBTRACT operand+ FROM ref+ size [END-SUBTRACT] | SUBTRACT operand+ FROM operand GIVING ref+ size [END-SUBTRACT]
  unfoldable pub subtract_rest : Form true Statement
  subtract_rest = made subtract_node (both (subtracted d) (before (size_error one) (noise k.EndSubtract)))

  -- MULTIPLY operand BY ref+ size [END-MULTIPLY] | MULTIPLY operand BY operand GIVING ref+ size [END-MULTIPLY]
  unfoldable pub multiply_rest : Form true Statement
  multiply_rest = made multiply_node (both (multiplied d) (before (size_error one) (noise k.EndMultiply)))

  -- DIVIDE operand INTO ref+ size [END-DIVIDE] | DIVIDE operand (INTO|BY) operand GIVING ref+ size [END-DIVIDE]
  unfoldable pub divide_rest : Form true Statement
  divide_rest = made divide_node (both (divided d) (before (size_error one) (noise k.EndDivide)))

  -- COMPUTE ref+ "=" expr size [END-COMPUTE]
  unfoldable pub compute_rest : Form true Statement
  compute_rest = made (λ (to, (value, handled)). s.Compute to value handled)
      (both (references d) (both (after (sign marks.Equal) (expr d)) (before (size_error one) (noise k.EndCompute))))

  -- IF cond [THEN] statement+ [ELSE statement+] [END-IF]
  unfoldable pub if_rest : Form true Statement
  if_rest = made (λ (holds, (first, other)). s.If holds first other)
      (both (cond d) (after (noise k.Then) (both (some one) (before (optional (else_part one)) (noise k.EndIf)))))

  -- PERFORM [loop] statement+ END-PERFORM
  unfoldable pub perform_inline : Form true Statement
  perform_inline = made (λ (often, body). s.PerformInline often body) (both (optional (repeated d)) (before (some one) (key k.EndPerform)))

  unfoldable pub perform_rest : Form true Statement
  perform_rest = either (perform_paragraphs d) perform_inline

  -- READ name [NEXT|PREVIOUS] [RECORD] [INTO ref] [ADVANCING [ON] LOCK | IGNORING LOCK | retry] [[WITH] [NO] LOCK] [KEY [IS] ref]
  -- [[AT] END statement+] [NOT [AT] END statement+] bad [END-READ]
  unfoldable pub read_rest : Form true Statement
  read_rest = made (λ (file, (way, (item, (others, (locks, (by, (ended, failed))))))). s.Read file way item others locks by ended failed)
      (both name
      (both (before (optional direction) (noise k.Record))
      (both (optional (into d))
      (both (optional (locking d))
      (both (optional lock)
      (both (optional (by_key d))
      (both (at_end one)
      (before (invalid_key one) (noise k.EndRead)))))))))

  -- START name [FIRST|LAST|KEY [IS] [NOT] relation ref] bad [END-START]
  unfoldable pub start_rest : Form true Statement
  start_rest = made (λ (file, (at, failed)). s.Start file at failed)
      (both name (both (optional (place d)) (before (invalid_key one) (noise k.EndStart))))

  -- WRITE name [FROM operand] [retry] [[WITH] [NO] LOCK] bad [END-WRITE]
  unfoldable pub write_rest : Form true Statement
  write_rest = made (λ (written, (value, (often, (locks, failed)))). s.Write written value often locks failed)
      (both name (both (optional (from d)) (both (optional (retry d)) (both (optional lock) (before (invalid_key one) (noise k.EndWrite))))))

  -- REWRITE name [FROM operand] [retry] [[WITH] [NO] LOCK] bad [END-REWRITE]
  unfoldable pub rewrite_rest : Form true Statement
  rewrite_rest = made (λ (written, (value, (often, (locks, failed)))). s.Rewrite written value often locks failed)
      (both name (both (optional (from d)) (both (optional (retry d)) (both (optional lock) (before (invalid_key one) (noise k.EndRewrite))))))

  -- DELETE name [RECORD] [retry] bad [END-DELETE]
  unfoldable pub delete_rest : Form true Statement
  delete_rest = made (λ (file, (often, failed)). s.Delete file often failed)
      (both name (after (noise k.Record) (both (optional (retry d)) (before (invalid_key one) (noise k.EndDelete)))))

  -- ACCEPT name [[ON] EXCEPTION statement+] [NOT [ON] EXCEPTION statement+] [END-ACCEPT]
  unfoldable pub accept_rest : Form true Statement
  accept_rest = made (λ (screen, handled). s.Accept screen handled) (both name (before (exception one) (noise k.EndAccept)))

  -- a statement: the line of its verb, and what follows it
  unfoldable pub any_statement : Form true (Line × Statement)
  any_statement =
      either (both (verb v.Move) (move_rest d))
      (either (both (verb v.Add) add_rest)
      (either (both (verb v.Subtract) subtract_rest)
      (either (both (verb v.Multiply) multiply_rest)
      (either (both (verb v.Divide) divide_rest)
      (either (both (verb v.Compute) compute_rest)
      (either (both (verb v.If) if_rest)
      (either (both (verb v.Perform) perform_rest)
      (either (both (verb v.Open) (open_rest d))
      (either (both (verb v.Close) close_rest)
      (either (both (verb v.Read) read_rest)
      (either (both (verb v.Start) start_rest)
      (either (both (verb v.Write) write_rest)
      (either (both (verb v.Rewrite) rewrite_rest)
      (either (both (verb v.Delete) delete_rest)
      (either (both (verb v.Unlock) unlock_rest)
      (either (both (verb v.Accept) accept_rest)
      (either (both (verb v.Display) display_rest)
      (either (both (verb v.Continue) continue_rest)
      (either (both (verb v.Exit) exit_rest)
      (either (both (verb v.Outside) outside_rest)
      (both (verb v.Stop) stop_rest)))))))))))))))))))))

abbrev pub located : {A : Type 0} → Line × A → Located A
located (line, item) = record { line = line; item = item }

-- a verb, which is the first word of a statement
abbrev pub is_any_verb : Token → Option Line
is_any_verb (tokens.Verb have line) = Some line
is_any_verb _ = None

-- where none may open, a statement is too deep as soon as its first word is there
unfoldable pub statement_within : ℕ → Form true (Located Statement)
statement_within zero = too_deep (mark is_any_verb)
statement_within (suc d) = made located (any_statement d (part (statement_within d)))

-- a statement, where d more statements and parentheses may open, itself among them
unfoldable pub statement : ℕ → Form true (Located Statement)
statement d = part (statement_within d)

-- statement+
unfoldable pub statements : ℕ → Form true (List (Located Statement))
statements d = some (statement d)

-- The grammar of the phrases of statements. The number says how many statements and parentheses may still open.
use Rattle.std.specs.Prelude.{ℕ, Bool, true, false, List, Option, Some, None}
use Rattle.cob_base.specs.declared.keywords.Keyword.{Keyword}
use Rattle.cob_base.specs.declared.keywords.Keyword.TheVariants as k
use Rattle.cob_base.specs.declared.operands.Operand.{Operand}
use Rattle.cob_base.specs.declared.operands.Reference.{Reference}
use Rattle.cob_base.specs.declared.statements.ConditionalPhrases.{ConditionalPhrases}
use Rattle.cob_base.specs.declared.statements.Test.{Test}
use Rattle.cob_base.specs.declared.statements.Test.TheVariants as tests
use Rattle.cob_base.specs.declared.statements.Varying.{Varying}
use Rattle.cob_base.specs.declared.statements.Loop.{Loop}
use Rattle.cob_base.specs.declared.statements.Loop.TheVariants as loops
use Rattle.cob_base.specs.declared.statements.Retry.{Retry}
use Rattle.cob_base.specs.declared.statements.Retry.TheVariants as retries
use Rattle.cob_base.specs.declared.statements.ReadLocking.{ReadLocking}
use Rattle.cob_base.specs.declared.statements.ReadLocking.TheVariants as lockings
use Rattle.cob_base.specs.declared.statements.LockPhrase.{LockPhrase}
use Rattle.cob_base.specs.declared.statements.LockPhrase.TheVariants as locks
use Rattle.cob_base.specs.declared.statements.OpenMode.{OpenMode}
use Rattle.cob_base.specs.declared.statements.OpenMode.TheVariants as modes
use Rattle.cob_base.specs.declared.statements.OpenPhrase.{OpenPhrase}
use Rattle.cob_base.specs.declared.statements.OpenPhrase.TheVariants as open_phrases
use Rattle.cob_base.specs.declared.statements.Direction.{Direction}
use Rattle.cob_base.specs.declared.statements.Direction.TheVariants as directions
use Rattle.cob_base.specs.declared.statements.StartPlace.{StartPlace}
use Rattle.cob_base.specs.declared.statements.StartPlace.TheVariants as places
use Rattle.cob_base.specs.declared.file_entries.Sharing.{Sharing}
use Rattle.cob_base.specs.Form.{Form, before}
use Rattle.cob_base.specs.Form.Form.{mark, part, both, after, made, either, optional, some}
use Rattle.cob_base.specs.Phrases.{is_key, key_for, key, noise, name, outside_within, reference, operand}
use Rattle.cob_base.specs.FileEntries.{sharing}
use Rattle.cob_base.specs.Conditions.{relation, cond}

-- ---- phrases with statements, each of them a `one`

-- a phrase and its NOT phrase
abbrev pub conditional : {S : Type 0} → Option (List S) × Option (List S) → ConditionalPhrases S
conditional (on, not_on) = record { on = on; not_on = not_on }

-- [ON] SIZE ERROR
unfoldable pub size_words : Form true (Unit {0})
size_words = after (noise k.On) (after (key k.Size) (key k.Error))

-- INVALID [KEY]
unfoldable pub invalid_words : Form true (Unit {0})
invalid_words = after (key k.Invalid) (made (λ u. tt) (noise k.Key))

-- [AT] END
unfoldable pub end_words : Form true (Unit {0})
end_words = after (noise k.At) (key k.End)

-- [ON] EXCEPTION
unfoldable pub exception_words : Form true (Unit {0})
exception_words = after (noise k.On) (key k.Exception)

-- ELSE
unfoldable pub else_words : Form true (Unit {0})
else_words = key k.Else

-- NOT and the words of a phrase
unfoldable pub not_words : Form true (Unit {0}) → Form true (Unit {0})
not_words words = after (key k.Not) words

module _ {S : Type 0} (one : Form true S) where
  -- the words of a phrase, and statement+
  unfoldable pub phrase : Form true (Unit {0}) → Form true (List S)
  phrase words = after words (some one)

  -- a phrase and its NOT phrase, each of which may be absent
  unfoldable pub phrases : Form true (Unit {0}) → Form false (ConditionalPhrases S)
  phrases words = made conditional (both (optional (phrase words)) (optional (phrase (not_words words))))

  -- size = [[ON] SIZE ERROR statement+] [NOT [ON] SIZE ERROR statement+]
  unfoldable pub size_error : Form false (ConditionalPhrases S)
  size_error = phrases size_words

  -- bad = [INVALID [KEY] statement+] [NOT INVALID [KEY] statement+]
  unfoldable pub invalid_key : Form false (ConditionalPhrases S)
  invalid_key = phrases invalid_words

  -- [[AT] END statement+] [NOT [AT] END statement+]
  unfoldable pub at_end : Form false (ConditionalPhrases S)
  at_end = phrases end_words

  -- [[ON] EXCEPTION statement+] [NOT [ON] EXCEPTION statement+]
  unfoldable pub exception : Form false (ConditionalPhrases S)
  exception = phrases exception_words

  -- ELSE statement+
  unfoldable pub else_part : Form true (List S)
  else_part = phrase else_words

-- ---- loops

abbrev pub test_of : Keyword → Option Test
test_of k.Before = Some tests.Before
test_of k.After = Some tests.After
test_of _ = None

-- test = [WITH] TEST (BEFORE|AFTER)
unfoldable pub test : Form true Test
test = part (after (noise k.With) (after (key k.Test) (mark (key_for test_of))))

module _ (d : ℕ) where
  -- operand TIMES
  unfoldable pub times : Form true Loop
  times = made loops.Times (before (operand d) (key k.Times))

  -- VARYING ref FROM operand BY operand
  unfoldable pub varying : Form true Varying
  varying = made (λ (item, (first, step)). record { item = item; from = first; by = step })
      (after (key k.Varying) (both (reference d) (both (after (key k.From) (operand d)) (after (key k.By) (operand d)))))

  -- [test] UNTIL cond | [test] VARYING ref FROM operand BY operand UNTIL cond
  unfoldable pub until : Form true Loop
  until = made (λ (tested, (varied, condition)). loops.Until tested varied condition)
      (both (optional test) (both (optional varying) (after (key k.Until) (cond d))))

  -- loop = operand TIMES | [test] UNTIL cond | [test] VARYING ref FROM operand BY operand UNTIL cond
  unfoldable pub repeated : Form true Loop
  repeated = part (either times until)

-- ---- locks

-- TIMES|SECONDS: whether it is SECONDS
abbrev pub is_seconds : Keyword → Option Bool
is_seconds k.Times = Some false
is_seconds k.Seconds = Some true
is_seconds _ = None

unfoldable pub retry_unit : Form true Bool
retry_unit = mark (key_for is_seconds)

abbrev pub retried : Operand × Bool → Retry
retried (often, false) = retries.Times often
retried (long, true) = retries.Seconds long

-- ADVANCING [ON] LOCK
unfoldable pub advancing : Form true (Unit {0})
advancing = after (key k.Advancing) (after (noise k.On) (key k.Lock))

-- IGNORING LOCK
unfoldable pub ignoring : Form true (Unit {0})
ignoring = after (key k.Ignoring) (key k.Lock)

module _ (d : ℕ) where
  -- FOR operand SECONDS
  unfoldable pub for_seconds : Form true Retry
  for_seconds = made retries.Seconds (after (key k.For) (before (operand d) (key k.Seconds)))

  -- operand TIMES | operand SECONDS
  unfoldable pub times_or_seconds : Form true Retry
  times_or_seconds = made retried (both (operand d) retry_unit)

  -- operand TIMES | [FOR] operand SECONDS | FOREVER
  unfoldable pub retry_rest : Form true Retry
  retry_rest = either times_or_seconds (either for_seconds (made (λ u. retries.Forever) (key k.Forever)))

  -- retry = RETRY (operand TIMES | [FOR] operand SECONDS | FOREVER)
  unfoldable pub retry : Form true Retry
  retry = part (after (key k.Retry) retry_rest)

  -- ADVANCING [ON] LOCK | IGNORING LOCK | retry
  unfoldable pub locking : Form true ReadLocking
  locking = either (made (λ u. lockings.Advancing) advancing)
      (either (made (λ u. lockings.Ignoring) ignoring)
      (made lockings.Retry retry))

  -- KEY [IS] ref
  unfoldable pub by_key : Form true Reference
  by_key = after (key k.Key) (after (noise k.Is) (reference d))

  -- INTO ref
  unfoldable pub into : Form true Reference
  into = after (key k.Into) (reference d)

  -- FROM operand
  unfoldable pub from : Form true Operand
  from = after (key k.From) (operand d)

-- NO LOCK
unfoldable pub no_lock : Form true (Unit {0})
no_lock = after (key k.No) (key k.Lock)

-- NO LOCK | LOCK
unfoldable pub lock_or_not : Form true LockPhrase
lock_or_not = either (made (λ u. locks.NoLock) no_lock) (made (λ u. locks.Lock) (key k.Lock))

-- [WITH] [NO] LOCK
unfoldable pub lock : Form true LockPhrase
lock = after (noise k.With) lock_or_not

-- ---- OPEN, READ and START

abbrev pub direction_of : Keyword → Option Direction
direction_of k.Next = Some directions.Next
direction_of k.Previous = Some directions.Previous
direction_of _ = None

-- NEXT|PREVIOUS
unfoldable pub direction : Form true Direction
direction = mark (key_for direction_of)

abbrev pub mode_of : Keyword → Option OpenMode
mode_of k.Input = Some modes.Input
mode_of k.Output = Some modes.Output
mode_of k.InputOutputMode = Some modes.InputOutput
mode_of _ = None

-- INPUT | OUTPUT | I-O
unfoldable pub mode : Form true OpenMode
mode = mark (key_for mode_of)

-- the outside mode EXTEND, with all words up to the period
unfoldable pub outside_mode : Form true (Unit {0})
outside_mode = outside_within (is_key k.Extend)

-- SHARING [WITH] sharing
unfoldable pub sharing_phrase : Form true Sharing
sharing_phrase = after (key k.Sharing) (after (noise k.With) sharing)

module _ (d : ℕ) where
  -- mode [SHARING [WITH] sharing] [retry] name+
  unfoldable pub opened_files : Form true OpenPhrase
  opened_files = made (λ (opened, (shared, (retried, files))). open_phrases.Files opened shared retried files)
      (both mode (both (optional sharing_phrase) (both (optional (retry d)) (some name))))

  -- a phrase of OPEN; with an outside mode it is over
  unfoldable pub open_phrase : Form true OpenPhrase
  open_phrase = part (either opened_files (made (λ u. open_phrases.Outside) outside_mode))

  -- KEY [IS] [NOT] relation ref
  unfoldable pub key_relation : Form true StartPlace
  key_relation = made (λ (negated, (holds, key_item)). places.Key negated holds key_item)
      (after (key k.Key) (after (noise k.Is) (both (noise k.Not) (both relation (reference d)))))

  -- FIRST|LAST|KEY [IS] [NOT] relation ref
  unfoldable pub place : Form true StartPlace
  place = either (made (λ u. places.First) (key k.First)) (either (made (λ u. places.Last) (key k.Last)) key_relation)

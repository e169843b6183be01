-- Phrases of statements.
use Rattle.std.specs.Prelude.{List, [], ◌∷◌, Option, Some, None, option_to_list}
use Rattle.std.specs.List.{flat_map}
use Rattle.cob_base.specs.declared.operands.Operand.{Operand}
use Rattle.cob_base.specs.declared.conditions.Cond.{Cond}
use Rattle.cob_base.specs.declared.statements.Loop.{Loop}
use Rattle.cob_base.specs.declared.statements.Loop.TheVariants as loops
use Rattle.cob_base.specs.declared.statements.Varying.{Varying}
use Rattle.cob_base.specs.declared.statements.Retry.{Retry}
use Rattle.cob_base.specs.declared.statements.Retry.TheVariants as retry
use Rattle.cob_base.specs.declared.statements.ReadLocking.{ReadLocking}
use Rattle.cob_base.specs.declared.statements.ReadLocking.TheVariants as locking
use Rattle.cob_base.specs.declared.statements.OpenPhrase.{OpenPhrase}
use Rattle.cob_base.specs.declared.statements.OpenPhrase.TheVariants as phrases
use Rattle.cob_base.specs.declared.statements.Statement.{Statement}
use Rattle.cob_base.specs.declared.statements.Statement.TheVariants as s
use Rattle.statement_parts.specs.Leaves.{simple_in}

-- ---- loops

-- how often a PERFORM does what it does, where that is said
abbrev pub loop_of : Statement → Option Loop
loop_of (s.PerformParagraphs first last repeated) = repeated
loop_of (s.PerformInline' repeated m body) = repeated
loop_of _ = None

abbrev pub times_in : Option Loop → List Operand
times_in None = []
times_in (Some (loops.Times number)) = number ∷ []
times_in (Some (loops.Until test varying condition)) = []

-- the number before TIMES
abbrev pub times_of : Statement → List Operand
times_of statement = times_in (loop_of statement)

abbrev pub varying_in : Option Loop → List Varying
varying_in None = []
varying_in (Some (loops.Times number)) = []
varying_in (Some (loops.Until test varying condition)) = option_to_list varying

-- VARYING, where it is written
abbrev pub varying_of : Statement → List Varying
varying_of statement = varying_in (loop_of statement)

abbrev pub until_in : Option Loop → List Cond
until_in None = []
until_in (Some (loops.Times number)) = []
until_in (Some (loops.Until test varying condition)) = condition ∷ []

-- ---- conditions

-- the condition of an IF or of a loop
abbrev pub condition_of : Statement → List Cond
condition_of (s.If' condition m first other) = condition ∷ []
condition_of (s.PerformParagraphs first last repeated) = until_in repeated
condition_of (s.PerformInline' repeated m body) = until_in repeated
condition_of _ = []

-- the simple conditions that a statement tests
abbrev pub tests_of : Statement → List Cond
tests_of statement = flat_map simple_in (condition_of statement)

-- ---- RETRY

abbrev pub retry_of_phrase : OpenPhrase → List Retry
retry_of_phrase (phrases.Files mode sharing asked files) = option_to_list asked
retry_of_phrase phrases.Outside = []

abbrev pub retry_of_locking : Option ReadLocking → List Retry
retry_of_locking None = []
retry_of_locking (Some locking.Advancing) = []
retry_of_locking (Some locking.Ignoring) = []
retry_of_locking (Some (locking.Retry asked)) = asked ∷ []

-- the RETRY phrases of a statement
abbrev pub retries_of : Statement → List Retry
retries_of (s.Open phrases) = flat_map retry_of_phrase phrases
retries_of (s.Read' file direction into locking lock key end not_end invalid not_invalid) = retry_of_locking locking
retries_of (s.Write' record_name from asked lock invalid not_invalid) = option_to_list asked
retries_of (s.Rewrite' record_name from asked lock invalid not_invalid) = option_to_list asked
retries_of (s.Delete' file asked invalid not_invalid) = option_to_list asked
retries_of _ = []

-- the number before TIMES or SECONDS
abbrev pub number_of_retry : Retry → List Operand
number_of_retry (retry.Times number) = number ∷ []
number_of_retry (retry.Seconds number) = number ∷ []
number_of_retry retry.Forever = []

-- What the next words choose, by cases, as the code does.
use Rattle.std.specs.Prelude.{ℕ, List, Ok, Err, Option, Some, None}
use Rattle.cob_base.specs.declared.statements.Located.{Located}
use Rattle.cob_base.specs.declared.statements.Statement.{Statement}
use Rattle.cob_base.specs.Form.{Words}
use Rattle.cob_base.specs.Statements.{statements}
use Rattle.phrase_parser.specs.Reading.{Outcome, ◌>>=◌, read}

-- the statements of a phrase, where its words were read
unfoldable pub phrase_of : ℕ → Outcome (Unit {0}) → Words → Outcome (Option (List (Located Statement)))
phrase_of d (Ok front) w = read (statements d) front.1 >>= λ x. Ok (Some x.0, x.1)
phrase_of d (Err reason) w = Ok (None, w)

-- The lists of statements right inside a statement.
use Rattle.std.specs.Prelude.{List, [], Option, Some, None}
use Rattle.std.specs.List.{flat_map}
use denote.Ref.{Bor}
use Rattle.cob_base.specs.declared.statements.Located.{Located}
use Rattle.cob_base.specs.declared.statements.Statement.{Statement}
use Rattle.statement_parts.specs.Statements.{with_inner}

-- the statements of a phrase, none where it was not written
abbrev pub written : Option (List (Located Statement)) → List (Located Statement)
written None = []
written (Some all) = all

-- the statements of lists, each followed by those inside it
abbrev pub in_lists : List (Bor (List (Located Statement))) → List (Located Statement)
in_lists lists = flat_map (λ list. with_inner list.now) lists

-- What the code lends of a statement, as the definitions see it.
use Rattle.std.specs.Prelude.{List, map}
use denote.Ref.{Bor}
use Rattle.statement_parts.specs.declared.names.Wanted.{Wanted}
use Rattle.statement_parts.specs.declared.values.Moving.{Moving}
use Rattle.statement_parts.specs.declared.values.Comparing.{Comparing}
use Rattle.statement_parts.specs.References as r
use Rattle.statement_parts.specs.Values as v

-- things that are lent
abbrev pub seen_all : {A : Type 0} → List (Bor A) → List A
seen_all all = map (λ one. one.now) all

abbrev pub seen_wanted : Wanted → r.Wanted
seen_wanted one = r.wanted one.kind one.name.now

abbrev pub seen_moving : Moving → v.Moving
seen_moving one = record { from = one.from.now; to = one.to.now }

abbrev pub seen_comparing : Comparing → v.Comparing
seen_comparing one = record { left = one.left.now; right = one.right.now }

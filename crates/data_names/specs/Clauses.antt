-- The clauses of an item's entry. Where one stands twice, the first counts.
use Rattle.std.specs.Prelude.{List, [], ◌∷◌, Option, Some, None}
use Rattle.cob_base.specs.declared.operands.Constant.{Constant}
use Rattle.cob_base.specs.declared.data_entries.ItemClause.{ItemClause}
use Rattle.cob_base.specs.declared.data_entries.ItemClause.TheVariants as c

abbrev pub or_next : {A : Type 0} → Option A → Option A → Option A
or_next None next = next
or_next (Some x) next = Some x

-- the first that a look at each gives
abbrev pub first_of : {A B : Type 0} → (A → Option B) → List A → Option B
first_of look [] = None
first_of look (x ∷ xs) = or_next (look x) (first_of look xs)

abbrev pub value_named : ItemClause → Option Constant
value_named (c.Value value) = Some value
value_named _ = None

-- what VALUE names
abbrev pub value_clause : List ItemClause → Option Constant
value_clause clauses = first_of value_named clauses

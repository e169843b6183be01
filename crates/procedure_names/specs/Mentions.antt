-- The references of a procedure division, each with the line of its statement.
use Rattle.std.specs.Prelude.{List, ◌++◌, map}
use Rattle.std.specs.List.{flat_map}
use Rattle.cob_base.specs.declared.line.Line.{Line}
use Rattle.cob_base.specs.declared.statements.Located.{Located}
use Rattle.cob_base.specs.declared.statements.Statement.{Statement}
use Rattle.name_rules.specs.Mentions.{Mention, mention, item_of_subscript}
use Rattle.statement_parts.specs.References.{Wanted, items_of, conditions_of, names_of}

-- the items that statements name, but for those in subscripts
abbrev pub item_mentions : List (Located Statement) → List Mention
item_mentions statements = flat_map (λ one. map (mention one.line) (items_of one.item)) statements

-- the 88 entries that statements name
abbrev pub condition_mentions : List (Located Statement) → List Mention
condition_mentions statements = flat_map (λ one. map (mention one.line) (conditions_of one.item)) statements

-- the items in the subscripts of references
abbrev pub subscripts_of : List Mention → List Mention
subscripts_of mentions = flat_map (λ one. map (mention one.line) (item_of_subscript one.reference.subscript)) mentions

-- the items in subscripts
abbrev pub subscript_mentions : List (Located Statement) → List Mention
subscript_mentions statements = subscripts_of (item_mentions statements ++ condition_mentions statements)

-- all items that statements name
abbrev pub all_mentions : List (Located Statement) → List Mention
all_mentions statements = item_mentions statements ++ subscript_mentions statements

-- a name of a file, a record, a screen or a paragraph, and the line of its statement
pub record Asked : Type 0 where
  pub line : Line
  pub name : Wanted

abbrev pub asked : Line → Wanted → Asked
asked line name = record { line = line; name = name }

abbrev pub asked_names : List (Located Statement) → List Asked
asked_names statements = flat_map (λ one. map (asked one.line) (names_of one.item)) statements

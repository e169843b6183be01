-- Reason 6: what is of the wrong kind in statements. What they do with values is judged by value_rules.
use Rattle.std.specs.Prelude.{ℕ, nat_lt, Bool, true, false, ◌&&◌, ◌||◌, List, ◌++◌, map, filter, Option, Some, None, unwrap_or}
use Rattle.cob_base.specs.declared.line.Line.{Line}
use Rattle.cob_base.specs.declared.conditions.Relation.{Relation}
use Rattle.cob_base.specs.declared.conditions.Relation.TheVariants.{Equal}
use Rattle.cob_base.specs.declared.paragraphs.Paragraph.{Paragraph}
use Rattle.cob_base.specs.declared.paragraphs.Program.{Program}
use Rattle.cob_base.specs.declared.statements.StartPlace.{StartPlace}
use Rattle.cob_base.specs.declared.statements.StartPlace.TheVariants.{Key}
use Rattle.cob_base.specs.declared.statements.Statement.{Statement}
use Rattle.cob_base.specs.declared.statements.Statement.TheVariants as s
use Rattle.data_names.specs.Items.{DataItem}
use Rattle.data_names.specs.References.{found}
use Rattle.front_rules.specs.Kinds.{is_no_integer}
use Rattle.statement_parts.specs.Statements.{statements}
use Rattle.procedure_names.specs.Names.{paragraph_named}
use Rattle.procedure_names.specs.Mentions.{subscript_mentions}
use Rattle.procedure_rules.specs.Reading.{is_out_of_order}
use Rattle.value_rules.specs.Kinds.{has_bad_values}

-- ---- single statements

abbrev pub is_before : Option ℕ → Option ℕ → Bool
is_before None first = false
is_before (Some last) None = false
is_before (Some last) (Some first) = nat_lt last first

-- PERFORM THRU a paragraph that stands before the first one
abbrev pub runs_backwards : List Paragraph → Statement → Bool
runs_backwards all (s.PerformParagraphs first last repeated) =
    is_before (paragraph_named all (unwrap_or last first)) (paragraph_named all first)
runs_backwards all _ = false

abbrev pub is_equal : Relation → Bool
is_equal Equal = true
is_equal _ = false

-- KEY NOT =
abbrev pub is_unequal : StartPlace → Bool
is_unequal (Key negated relation key) = negated && is_equal relation
is_unequal _ = false

-- START with NOT =
abbrev pub starts_unequal : Statement → Bool
starts_unequal (s.Start' file (Some place) invalid not_invalid) = is_unequal place
starts_unequal _ = false

-- ---- all of them

abbrev pub is_of_wrong_kind : Program → List DataItem → Statement → Bool
is_of_wrong_kind program items statement =
    has_bad_values program items statement || runs_backwards program.paragraphs statement || is_out_of_order program.front statement || starts_unequal statement

-- statements, and subscripts whose item is no integer
abbrev pub wrong_kinds_in_statements : Program → List DataItem → List Line
wrong_kinds_in_statements program items =
    map (λ one. one.line) (filter (λ one. is_of_wrong_kind program items one.item) (statements program.paragraphs))
    ++ map (λ one. one.line) (filter (λ one. is_no_integer (found items one.reference)) (subscript_mentions (statements program.paragraphs)))

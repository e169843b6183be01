-- Reasons 1, 2 and 13: a name that stands for nothing, a reference that matches several, and subscripts that OCCURS does not match.
use Rattle.std.specs.Prelude.{ℕ, ◌==◌, nat_lt, not, List, [], ◌∷◌, ◌++◌, map, filter, Option, Some, None, option_map, is_some, if◌then◌else◌}
use Rattle.cob_base.specs.declared.line.Line.{Line}
use Rattle.cob_base.specs.declared.paragraphs.Program.{Program}
use Rattle.cob_base.specs.declared.paragraphs.EndProgram.{EndProgram}
use Rattle.data_names.specs.Items.{DataItem}
use Rattle.data_names.specs.References.{same_name, count_of_matches, found}
use Rattle.name_rules.specs.Subscripts.{is_miscounted}
use Rattle.statement_parts.specs.Statements.{statements}
use Rattle.procedure_names.specs.Names.{is_known}
use Rattle.procedure_names.specs.Conditions.{count_of_conditions, found_condition}
use Rattle.procedure_names.specs.Mentions.{condition_mentions, all_mentions, asked_names}

abbrev pub line_of_end : List ℕ → Option EndProgram → List Line
line_of_end program None = []
line_of_end program (Some end) = if same_name end.name program then [] else end.line ∷ []

-- a name after END PROGRAM other than the program's
abbrev pub ends_otherwise : Program → List Line
ends_otherwise program = line_of_end program.front.program program.end_program

-- A reference that matches no item or no 88 entry where one is wanted, a name that stands for no file, record, screen or paragraph,
-- and a wrong name after END PROGRAM.
abbrev pub unknown_in_statements : Program → List DataItem → List Line
unknown_in_statements program items =
    map (λ one. one.line) (filter (λ one. count_of_matches items one.reference == 0) (all_mentions (statements program.paragraphs)))
    ++ map (λ one. one.line) (filter (λ one. count_of_conditions program.front items one.reference == 0) (condition_mentions (statements program.paragraphs)))
    ++ map (λ one. one.line) (filter (λ one. not (is_known program items one.name)) (asked_names (statements program.paragraphs)))
    ++ ends_otherwise program

-- references that match several
abbrev pub ambiguous_in_statements : Program → List DataItem → List Line
ambiguous_in_statements program items =
    map (λ one. one.line) (filter (λ one. nat_lt 1 (count_of_matches items one.reference)) (all_mentions (statements program.paragraphs)))
    ++ map (λ one. one.line) (filter (λ one. nat_lt 1 (count_of_conditions program.front items one.reference)) (condition_mentions (statements program.paragraphs)))

-- an item with OCCURS in or above it has a subscript, any other has none; the subscript of an 88 entry counts for its item
abbrev pub miscounted_in_statements : Program → List DataItem → List Line
miscounted_in_statements program items =
    map (λ one. one.line) (filter (λ one. is_miscounted (is_some one.reference.subscript) (found items one.reference)) (all_mentions (statements program.paragraphs)))
    ++ map (λ one. one.line) (filter (λ one. is_miscounted (is_some one.reference.subscript) (option_map (λ named. named.spot) (found_condition program.front items one.reference))) (condition_mentions (statements program.paragraphs)))

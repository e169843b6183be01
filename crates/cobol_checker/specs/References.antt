-- The references of a program, for which the names of its items are put in order.
use Rattle.std.specs.Prelude.{List, ◌++◌}
use Rattle.std.specs.List.{flat_map}
use Rattle.cob_base.specs.declared.paragraphs.Program.{Program}
use Rattle.cob_base.specs.declared.operands.Reference.{Reference}
use Rattle.cob_base.specs.declared.statements.Located.{Located}
use Rattle.cob_base.specs.declared.statements.Statement.{Statement}
use Rattle.data_names.specs.Parts.{files, screen_entries}
use Rattle.name_rules.specs.Mentions.{references_of_file, references_of_screen}
use Rattle.statement_parts.specs.References.{items_of, conditions_of}
use Rattle.statement_parts.specs.Statements.{statements}

-- a reference to an 88 entry counts for the item of its subscript
abbrev pub references_of_statement : Located Statement → List Reference
references_of_statement one = items_of one.item ++ conditions_of one.item

-- those of files, of screens and of statements; CRT STATUS has no qualifiers
abbrev pub references_of : Program → List Reference
references_of program =
    flat_map references_of_file (files program.front)
    ++ flat_map references_of_screen (screen_entries program.front)
    ++ flat_map references_of_statement (statements program.paragraphs)

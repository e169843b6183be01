-- The statements of a procedure division as one list, whatever they stand in.
--
-- Held-Statement-Add-2-4 is a phrase with statements that may not have been written, and Row_of-Statement-Add-2-2 a list of
-- statements, each with its line, as they stand inside a statement.
use Rattle.std.specs.Prelude.{List, [], ◌∷◌, ◌++◌}
use Rattle.std.specs.List.{flat_map}
use Rattle.cob_base.specs.declared.statements.Located.{Located}
use Rattle.cob_base.specs.declared.statements.Statement.{Statement, Held-Statement-Add-2-4, Row_of-Statement-Add-2-2, end_of-Statement-Add-2-2, more_of-Statement-Add-2-2, None', Some'}
use Rattle.cob_base.specs.declared.statements.Statement.TheVariants as s
use Rattle.cob_base.specs.declared.paragraphs.Sentence.{Sentence}
use Rattle.cob_base.specs.declared.paragraphs.Sentence.TheVariants as sentences
use Rattle.cob_base.specs.declared.paragraphs.Paragraph.{Paragraph}

abbrev mutual
  -- the statements that stand inside a statement, at any depth, in the order of the text
  pub inside : Statement → List (Located Statement)
  inside (s.Add' operands to on not_on) = in_phrase on ++ in_phrase not_on
  inside (s.AddGiving' operands to giving on not_on) = in_phrase on ++ in_phrase not_on
  inside (s.Subtract' operands from on not_on) = in_phrase on ++ in_phrase not_on
  inside (s.SubtractGiving' operands from giving on not_on) = in_phrase on ++ in_phrase not_on
  inside (s.Multiply' operand by on not_on) = in_phrase on ++ in_phrase not_on
  inside (s.MultiplyGiving' operand by giving on not_on) = in_phrase on ++ in_phrase not_on
  inside (s.Divide' operand into on not_on) = in_phrase on ++ in_phrase not_on
  inside (s.DivideGiving' first division second giving on not_on) = in_phrase on ++ in_phrase not_on
  inside (s.Compute' to value on not_on) = in_phrase on ++ in_phrase not_on
  inside (s.If' condition m first other) = in_row first ++ in_phrase other
  inside (s.PerformInline' repeated m body) = in_row body
  inside (s.Read' file direction into locking lock key end not_end invalid not_invalid) =
      in_phrase end ++ in_phrase not_end ++ in_phrase invalid ++ in_phrase not_invalid
  inside (s.Start' file place invalid not_invalid) = in_phrase invalid ++ in_phrase not_invalid
  inside (s.Write' file from retry lock invalid not_invalid) = in_phrase invalid ++ in_phrase not_invalid
  inside (s.Rewrite' file from retry lock invalid not_invalid) = in_phrase invalid ++ in_phrase not_invalid
  inside (s.Delete' file retry invalid not_invalid) = in_phrase invalid ++ in_phrase not_invalid
  inside (s.Accept' screen exception not_exception) = in_phrase exception ++ in_phrase not_exception
  inside (s.Move from to) = []
  inside (s.PerformParagraphs first last repeated) = []
  inside (s.Open phrases) = []
  inside (s.Close files) = []
  inside (s.Unlock file) = []
  inside (s.Display screen) = []
  inside s.Continue = []
  inside s.Exit = []
  inside s.StopRun = []
  inside s.Outside = []

  -- those of a phrase that may not have been written
  pub in_phrase : Held-Statement-Add-2-4 → List (Located Statement)
  in_phrase None' = []
  in_phrase (Some' m row) = in_row row

  -- each of these, followed by those inside it
  pub in_row : {m : _} → Row_of-Statement-Add-2-2 m → List (Located Statement)
  in_row end_of-Statement-Add-2-2 = []
  in_row (more_of-Statement-Add-2-2 line one rest) = record { line = line; item = one } ∷ (inside one ++ in_row rest)

-- each of these, followed by those inside it
abbrev pub with_inner : List (Located Statement) → List (Located Statement)
with_inner [] = []
with_inner (one ∷ rest) = one ∷ (inside one.item ++ with_inner rest)

abbrev pub in_sentence : Sentence → List (Located Statement)
in_sentence (sentences.Statements all) = with_inner all
in_sentence sentences.Outside = []

-- all statements of a paragraph, at any depth
abbrev pub in_paragraph : Paragraph → List (Located Statement)
in_paragraph paragraph = flat_map (λ sentence. in_sentence sentence.item) paragraph.sentences

-- all statements of paragraphs, at any depth, in the order of the text
abbrev pub statements : List Paragraph → List (Located Statement)
statements paragraphs = flat_map in_paragraph paragraphs

-- What a statement names, without the statements inside it.
use Rattle.std.specs.Prelude.{ℕ, List, [], ◌∷◌, ◌++◌, map, Option, Some, None, option_to_list}
use Rattle.std.specs.List.{flat_map}
use Rattle.cob_base.specs.declared.operands.Reference.{Reference}
use Rattle.cob_base.specs.declared.operands.Operand.{Operand}
use Rattle.cob_base.specs.declared.operands.Operand.TheVariants as o
use Rattle.cob_base.specs.declared.conditions.Cond.{Cond}
use Rattle.cob_base.specs.declared.conditions.Cond.TheVariants as c
use Rattle.cob_base.specs.declared.statements.Varying.{Varying}
use Rattle.cob_base.specs.declared.statements.StartPlace.{StartPlace}
use Rattle.cob_base.specs.declared.statements.StartPlace.TheVariants as places
use Rattle.cob_base.specs.declared.statements.OpenPhrase.{OpenPhrase}
use Rattle.cob_base.specs.declared.statements.OpenPhrase.TheVariants as phrases
use Rattle.cob_base.specs.declared.statements.Statement.{Statement}
use Rattle.cob_base.specs.declared.statements.Statement.TheVariants as s
use Rattle.statement_parts.specs.declared.names.NameKind.{NameKind}
use Rattle.statement_parts.specs.declared.names.NameKind.TheVariants.{File, Record, Screen, Paragraph}
use Rattle.statement_parts.specs.Leaves.{items_of_expr}
use Rattle.statement_parts.specs.Phrases.{times_of, varying_of, tests_of, retries_of, number_of_retry}

-- ---- items

abbrev pub in_operand : Operand → List Reference
in_operand (o.Reference item) = item ∷ []
in_operand (o.Constant constant) = []

abbrev pub in_operands : List Operand → List Reference
in_operands operands = flat_map in_operand operands

-- the items of a simple condition; the name of an 88 entry is none
abbrev pub items_of_test : Cond → List Reference
items_of_test (c.Relation left negated relation right) = in_operand left ++ in_operand right
items_of_test (c.Numeric item negated) = item ∷ []
items_of_test _ = []

abbrev pub items_of_varying : Varying → List Reference
items_of_varying varying = varying.item ∷ (in_operand varying.from ++ in_operand varying.by)

abbrev pub items_of_place : Option StartPlace → List Reference
items_of_place None = []
items_of_place (Some places.First) = []
items_of_place (Some places.Last) = []
items_of_place (Some (places.Key negated relation key)) = key ∷ []

-- the items of a statement's own words, but for those of its loop, its conditions and its RETRY phrases
abbrev pub items_of_words : Statement → List Reference
items_of_words (s.Move from to) = in_operand from ++ to
items_of_words (s.Add' operands to on not_on) = in_operands operands ++ to
items_of_words (s.AddGiving' operands to giving on not_on) = in_operands operands ++ in_operand to ++ giving
items_of_words (s.Subtract' operands from on not_on) = in_operands operands ++ from
items_of_words (s.SubtractGiving' operands from giving on not_on) = in_operands operands ++ in_operand from ++ giving
items_of_words (s.Multiply' operand by on not_on) = in_operand operand ++ by
items_of_words (s.MultiplyGiving' operand by giving on not_on) = in_operand operand ++ in_operand by ++ giving
items_of_words (s.Divide' operand into on not_on) = in_operand operand ++ into
items_of_words (s.DivideGiving' first division second giving on not_on) = in_operand first ++ in_operand second ++ giving
items_of_words (s.Compute' to value on not_on) = to ++ items_of_expr value
items_of_words (s.Read' file direction into locking lock key end not_end invalid not_invalid) = option_to_list into ++ option_to_list key
items_of_words (s.Start' file place invalid not_invalid) = items_of_place place
items_of_words (s.Write' record_name from asked lock invalid not_invalid) = in_operands (option_to_list from)
items_of_words (s.Rewrite' record_name from asked lock invalid not_invalid) = in_operands (option_to_list from)
items_of_words _ = []

-- all items that a statement names but those of subscripts
abbrev pub items_of : Statement → List Reference
items_of statement =
    items_of_words statement
    ++ in_operands (times_of statement)
    ++ flat_map items_of_varying (varying_of statement)
    ++ flat_map items_of_test (tests_of statement)
    ++ in_operands (flat_map number_of_retry (retries_of statement))

-- ---- 88 entries

abbrev pub name_of_test : Cond → List Reference
name_of_test (c.Name name) = name ∷ []
name_of_test _ = []

-- the 88 entries that a statement names
abbrev pub conditions_of : Statement → List Reference
conditions_of statement = flat_map name_of_test (tests_of statement)

-- ---- files, records, screens and paragraphs

-- a name and what it is to stand for
pub record Wanted : Type 0 where
  pub kind : NameKind
  pub name : List ℕ

abbrev pub wanted : NameKind → List ℕ → Wanted
wanted kind name = record { kind = kind; name = name }

abbrev pub files_of_phrase : OpenPhrase → List (List ℕ)
files_of_phrase (phrases.Files mode sharing asked files) = files
files_of_phrase phrases.Outside = []

abbrev pub names_of : Statement → List Wanted
names_of (s.PerformParagraphs first last repeated) = wanted Paragraph first ∷ map (wanted Paragraph) (option_to_list last)
names_of (s.Open phrases) = map (wanted File) (flat_map files_of_phrase phrases)
names_of (s.Close files) = map (wanted File) files
names_of (s.Read' file direction into locking lock key end not_end invalid not_invalid) = wanted File file ∷ []
names_of (s.Start' file place invalid not_invalid) = wanted File file ∷ []
names_of (s.Write' record_name from asked lock invalid not_invalid) = wanted Record record_name ∷ []
names_of (s.Rewrite' record_name from asked lock invalid not_invalid) = wanted Record record_name ∷ []
names_of (s.Delete' file asked invalid not_invalid) = wanted File file ∷ []
names_of (s.Unlock file) = wanted File file ∷ []
names_of (s.Accept' screen exception not_exception) = wanted Screen screen ∷ []
names_of (s.Display screen) = wanted Screen screen ∷ []
names_of _ = []

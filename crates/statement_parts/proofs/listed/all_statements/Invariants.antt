-- The statements so far.
use Rattle.std.proofs.Common.{◌≡◌, take}
use Rattle.statement_parts.specs.Statements.{statements}
use Rattle.statement_parts.specs.Seen.{seen_all}
use Rattle.statement_parts.proofs.listed.all_statements.Given as goal

abbrev pub invariant-loop-paragraph : goal.invariant-loop-paragraph
invariant-loop-paragraph l = seen_all l.all.items ≡ statements (take l.paragraph-index l.paragraphs)

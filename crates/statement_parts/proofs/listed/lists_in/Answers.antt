-- A statement with phrases is seen with each phrase apart; each is then the list that the code reads.
use Rattle.std.proofs.Common.{ap}
use Rattle.statement_parts.specs.Statements.{inside}
use Rattle.statement_parts.proofs.Inner.{both, four, branches, body_is}
use Rattle.statement_parts.proofs.listed.lists_in.Goals as goal

pub returns-in-Add : goal.returns-in-Add
returns-in-Add c = both _ c.args.statement.now c.in-Add.size_error.on c.in-Add.size_error.not_on c.of_phrases.ensures (ap inside c.in-Add.is)

pub returns-in-AddGiving : goal.returns-in-AddGiving
returns-in-AddGiving c = both _ c.args.statement.now c.in-AddGiving.size_error.on c.in-AddGiving.size_error.not_on c.of_phrases-in-AddGiving.ensures (ap inside c.in-AddGiving.is)

pub returns-in-Subtract : goal.returns-in-Subtract
returns-in-Subtract c = both _ c.args.statement.now c.in-Subtract.size_error.on c.in-Subtract.size_error.not_on c.of_phrases-in-Subtract.ensures (ap inside c.in-Subtract.is)

pub returns-in-SubtractGiving : goal.returns-in-SubtractGiving
returns-in-SubtractGiving c = both _ c.args.statement.now c.in-SubtractGiving.size_error.on c.in-SubtractGiving.size_error.not_on c.of_phrases-in-SubtractGiving.ensures (ap inside c.in-SubtractGiving.is)

pub returns-in-Multiply : goal.returns-in-Multiply
returns-in-Multiply c = both _ c.args.statement.now c.in-Multiply.size_error.on c.in-Multiply.size_error.not_on c.of_phrases-in-Multiply.ensures (ap inside c.in-Multiply.is)

pub returns-in-MultiplyGiving : goal.returns-in-MultiplyGiving
returns-in-MultiplyGiving c = both _ c.args.statement.now c.in-MultiplyGiving.size_error.on c.in-MultiplyGiving.size_error.not_on c.of_phrases-in-MultiplyGiving.ensures (ap inside c.in-MultiplyGiving.is)

pub returns-in-Divide : goal.returns-in-Divide
returns-in-Divide c = both _ c.args.statement.now c.in-Divide.size_error.on c.in-Divide.size_error.not_on c.of_phrases-in-Divide.ensures (ap inside c.in-Divide.is)

pub returns-in-DivideGiving : goal.returns-in-DivideGiving
returns-in-DivideGiving c = both _ c.args.statement.now c.in-DivideGiving.size_error.on c.in-DivideGiving.size_error.not_on c.of_phrases-in-DivideGiving.ensures (ap inside c.in-DivideGiving.is)

pub returns-in-Compute : goal.returns-in-Compute
returns-in-Compute c = both _ c.args.statement.now c.in-Compute.size_error.on c.in-Compute.size_error.not_on c.of_phrases-in-Compute.ensures (ap inside c.in-Compute.is)

pub returns-in-Start : goal.returns-in-Start
returns-in-Start c = both _ c.args.statement.now c.in-Start.invalid_key.on c.in-Start.invalid_key.not_on c.of_phrases-in-Start.ensures (ap inside c.in-Start.is)

pub returns-in-Write : goal.returns-in-Write
returns-in-Write c = both _ c.args.statement.now c.in-Write.invalid_key.on c.in-Write.invalid_key.not_on c.of_phrases-in-Write.ensures (ap inside c.in-Write.is)

pub returns-in-Rewrite : goal.returns-in-Rewrite
returns-in-Rewrite c = both _ c.args.statement.now c.in-Rewrite.invalid_key.on c.in-Rewrite.invalid_key.not_on c.of_phrases-in-Rewrite.ensures (ap inside c.in-Rewrite.is)

pub returns-in-Delete : goal.returns-in-Delete
returns-in-Delete c = both _ c.args.statement.now c.in-Delete.invalid_key.on c.in-Delete.invalid_key.not_on c.of_phrases-in-Delete.ensures (ap inside c.in-Delete.is)

pub returns-in-Accept : goal.returns-in-Accept
returns-in-Accept c = both _ c.args.statement.now c.in-Accept.exception.on c.in-Accept.exception.not_on c.of_phrases-in-Accept.ensures (ap inside c.in-Accept.is)

pub returns-in-If : goal.returns-in-If
returns-in-If c = branches _ c.args.statement.now _ _ _ c.in-If.other c.two_lists.ensures c.as_slice.ensures c.written.ensures (ap inside c.in-If.is)

pub returns-in-PerformInline : goal.returns-in-PerformInline
returns-in-PerformInline c = body_is _ c.args.statement.now _ _ c.one_list.ensures c.as_slice-in-PerformInline.ensures (ap inside c.in-PerformInline.is)

pub returns-in-Read : goal.returns-in-Read
returns-in-Read c = four _ c.args.statement.now c.in-Read.at_end.on c.in-Read.at_end.not_on c.in-Read.invalid_key.on c.in-Read.invalid_key.not_on c.of_read.ensures (ap inside c.in-Read.is)

use Rattle.std.proofs.Common.{◌≡◌, ◌++◌}
use Rattle.std.specs.List.{repeat}
use Rattle.picture_rule.specs.Reading.{marks_of}
use Rattle.picture_rule.proofs.reading.push_run.Given as goal

abbrev pub invariant-loop : goal.invariant-loop
invariant-loop l = l.marks.items ≡ l.fn.marks.items ++ repeat l.counter (marks_of l.symbol)

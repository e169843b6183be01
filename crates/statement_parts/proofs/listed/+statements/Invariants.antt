-- The statements so far; and the number of statements that are still to come.
use Rattle.std.proofs.Common.{◌≡◌, ◌+◌, ◌*◌, ◌++◌, take, length}
use Rattle.statement_parts.specs.Statements.{with_inner}
use Rattle.statement_parts.specs.Lists.{in_lists}
use Rattle.statement_parts.specs.Seen.{seen_all}
use Rattle.statement_parts.proofs.listed.+statements.Given as goal

abbrev pub decreases-add_all : goal.decreases-add_all
decreases-add_all l = 2 * length (with_inner l.statements.now)

abbrev pub decreases-add_lists : goal.decreases-add_lists
decreases-add_lists l = 2 * length (in_lists l.lists) + 1

abbrev pub invariant-add_all-loop-one : goal.invariant-add_all-loop-one
invariant-add_all-loop-one l = seen_all l.all.items ≡ seen_all l.initial.all.items ++ with_inner (take l.one-index l.statements)

abbrev pub invariant-add_lists-loop-list : goal.invariant-add_lists-loop-list
invariant-add_lists-loop-list l = seen_all l.all.items ≡ seen_all l.initial.all.items ++ in_lists (take l.list-index l.lists)

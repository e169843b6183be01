use Rattle.std.proofs.Common.{◌≡◌, take}
use Rattle.std.specs.Prelude.{filter}
use Rattle.screen_layout.specs.Placing.{goes_on}
use Rattle.screen_rows.specs.Clauses.{plain_look}
use Rattle.screen_layout.proofs.NestedLooks.{nested}
use Rattle.screen_layout.proofs.planning.look_at.Given as goal

abbrev pub invariant-loop-group : goal.invariant-loop-group
invariant-loop-group l = l.look ≡ nested plain_look (filter (λ group. goes_on group l.row) (take l.group-index l.rows))

use Rattle.std.proofs.Common.{subst, List, ℕ, Option, Some}
use Rattle.screen_rows.specs.Clauses.{value_text}
use Rattle.screen_rows.specs.Rows.{IsSeen}
use Rattle.screen_rows.proofs.contents.see.Goals as goal

pub returns-in_ok-seen-in-Some : goal.returns-in_ok-seen-in-Some
returns-in_ok-seen-in-Some c =
    let own = c.in_ok-seen-in-Some.ensures (value_text c.args.clauses.now) in
    let here = subst (λ (text : List ℕ). IsSeen (Some text) (value_text c.args.clauses.now) c.in_ok-seen-in-Some.seen.size c.in_ok-seen-in-Some.seen.picture) c.as_bytes.ensures own in
    subst (λ (o : Option (List ℕ)). IsSeen o (value_text c.args.clauses.now) c.in_ok-seen-in-Some.seen.size c.in_ok-seen-in-Some.seen.picture) c.in-Some.ensures here

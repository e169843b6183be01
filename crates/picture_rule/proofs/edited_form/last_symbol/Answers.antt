use Rattle.std.proofs.Common.{ap, arith, Some}
use Rattle.picture_rule.proofs.Endings.{alone_found, alone_only, nothing_front}
use Rattle.picture_rule.proofs.Numbers.{no_rest, some_rest}
use Rattle.picture_rule.proofs.edited_form.last_symbol.Goals as goal

pub returns-in-None-clause-only : goal.returns-in-None-clause-only
returns-in-None-clause-only c s w = absurd (nothing_front _ s c.in-None.ensures.none w)

pub returns-then-run-ne1-clause-only : goal.returns-then-run-ne1-clause-only
returns-then-run-ne1-clause-only c s w =
    let found = c.in-Some.ensures.found in
    absurd (c.if-run-ne1.true (omega (arith, found.1, (alone_only _ _ s found.2 w).times)))

pub returns-then-not-is_empty-clause-only : goal.returns-then-not-is_empty-clause-only
returns-then-not-is_empty-clause-only c s w =
    let found = c.in-Some.ensures.found in
    absurd (some_rest _ _ c.is_empty.ensures c.if-not-is_empty.true (alone_only _ _ s found.2 w).rest)

pub returns-else-not-is_empty-clause-found : goal.returns-else-not-is_empty-clause-found
returns-else-not-is_empty-clause-found c =
    let found = c.in-Some.ensures.found in
    alone_found _ _ _ _ found.2 (omega (arith, found.1, c.if-run-ne1.false)) (no_rest _ _ c.is_empty.ensures c.if-not-is_empty.false)

pub returns-else-not-is_empty-clause-only : goal.returns-else-not-is_empty-clause-only
returns-else-not-is_empty-clause-only c s w =
    let found = c.in-Some.ensures.found in
    ap Some (alone_only _ _ s found.2 w).symbol

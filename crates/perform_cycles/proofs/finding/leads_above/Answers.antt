use Rattle.std.proofs.Common.{◌≤◌, map, get_or, arith}
use Rattle.std.proofs.lemmas.List.{length-map}
use Rattle.std.proofs.lemmas.Option.{slice_get_within}
use Rattle.perform_cycles.proofs.Shown.{group_at}
use Rattle.perform_cycles.proofs.finding.leads_above.Goals as goal

pub returns-in-Some : goal.returns-in-Some
returns-in-Some c = λ places levels right there found after before is.
    let groups = map (λ place. place.group) places in
    let low : c.args.low ≤ get_or groups there 0 =
    c.are_at_least.ensures groups levels right there after (omega (arith, before, c.in-Some.ensures))
    (omega (arith, slice_get_within places there found is, length-map places (λ place. place.group))) in
    omega (arith, low, group_at places there found is)

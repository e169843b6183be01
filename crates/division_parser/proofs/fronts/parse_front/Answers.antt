use Rattle.std.proofs.Common.{◌≡◌, ◌∙◌, map, refl}
use Rattle.cob_base.specs.Token.{seen_entry}
use Rattle.division_parser.proofs.FrontAnswers.{fewer, reads_as, answers_fault}
use Rattle.division_parser.proofs.fronts.parse_front.Goals as goal

pub overflow_sub-result : goal.overflow_sub-result
overflow_sub-result c =
    let seen : c.as_slice.result.now ≡ map seen_entry c.args.entries.now = c.as_slice.ensures ∙ c.in_ok-seen.ensures in
    fewer c.reading_is_exact.ensures.fronts c.args.entries.now _ _ (rw seen at c.in-Ok.ensures)

pub returns-in-Ok : goal.returns-in-Ok
returns-in-Ok c =
    let seen : c.as_slice.result.now ≡ map seen_entry c.args.entries.now = c.as_slice.ensures ∙ c.in_ok-seen.ensures in
    reads_as c.reading_is_exact.ensures.fronts c.args.entries.now _ _ _ (rw seen at c.in-Ok.ensures) refl

pub returns-in-Err-Stops : goal.returns-in-Err-Stops
returns-in-Err-Stops c =
    let seen : c.as_slice.result.now ≡ map seen_entry c.args.entries.now = c.as_slice.ensures ∙ c.in_ok-seen.ensures in
    let again : c.as_slice-in-Err-Stops.result.now ≡ map seen_entry c.args.entries.now = c.as_slice-in-Err-Stops.ensures ∙ c.in_ok-seen.ensures in
    let stops = rw c.in-Err-Stops.field-0-is at c.in-Err-Stops.ensures in
    rw (c.fault_of.ensures, again) (answers_fault c.reading_is_exact.ensures.fronts c.args.entries.now _ _ (rw seen at stops))

use Rattle.std.proofs.Common.{◌≡◌, ◌∙◌, map}
use Rattle.cob_base.specs.Token.{seen_entry}
use Rattle.procedure_parser.proofs.ProcedureAnswers.{answers_read, answers_more, answers_fault}
use Rattle.procedure_parser.proofs.procedure.parse_procedure.Goals as goal

pub returns-in-Ok : goal.returns-in-Ok
returns-in-Ok c =
    let seen : c.as_slice.result.now ≡ map seen_entry c.args.entries.now = c.as_slice.ensures ∙ c.in_ok-seen.ensures in
    answers_read c.reading_is_exact.ensures.procedures c.args.entries.now _ _ (rw seen at c.in-Ok.ensures) c.in-empty.len_below

pub returns-in-len1-up : goal.returns-in-len1-up
returns-in-len1-up c =
    let seen : c.as_slice.result.now ≡ map seen_entry c.args.entries.now = c.as_slice.ensures ∙ c.in_ok-seen.ensures in
    answers_more c.reading_is_exact.ensures.procedures c.args.entries.now _ _ _ _ (rw seen at c.in-Ok.ensures) c.in-len1-up.len_at_least c.first-item.is

pub returns-in-Err-Stops : goal.returns-in-Err-Stops
returns-in-Err-Stops c =
    let seen : c.as_slice.result.now ≡ map seen_entry c.args.entries.now = c.as_slice.ensures ∙ c.in_ok-seen.ensures in
    let again : c.as_slice-in-Err-Stops.result.now ≡ map seen_entry c.args.entries.now = c.as_slice-in-Err-Stops.ensures ∙ c.in_ok-seen.ensures in
    let stops = rw c.in-Err-Stops.field-0-is at c.in-Err-Stops.ensures in
    rw (c.fault_of.ensures, again) (answers_fault c.reading_is_exact.ensures.procedures c.args.entries.now _ _ (rw seen at stops))

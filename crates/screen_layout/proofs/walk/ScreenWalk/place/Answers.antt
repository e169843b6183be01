use Rattle.std.proofs.Common.{◌∙◌, ap}
use Rattle.screen_layout.specs.Placing.{begun, end_after, given, start_after}
use Rattle.screen_layout.proofs.ScreenGroups.{given-is}
use Rattle.screen_layout.proofs.walk.ScreenWalk.place.Goals as goal

pub returns : goal.returns
returns c = λ before h.
    let row = c.args.row.now in
    let first = c.begin_screen.ensures ∙ ap (λ x. begun x row) h.last_end in
    let line = given-is (λ r. r.own.line) before row c.args.self.now.lead.line c.lead_with-lead.result.line h.lead.line c.lead_with-lead.ensures.line in
    let column = given-is (λ r. r.own.column) before row c.args.self.now.lead.column c.lead_with-lead.result.column h.lead.column c.lead_with-lead.ensures.column in
    c.begin_after.ensures ∙ ap (λ x. start_after x c.lead_with-lead.result.line c.lead_with-lead.result.column) first
    ∙ ap (λ x. start_after (begun (end_after before) row) x c.lead_with-lead.result.column) line
    ∙ ap (λ x. start_after (begun (end_after before) row) (given (λ r. r.own.line) before row) x) column

use Rattle.std.proofs.Common.{◌∙◌, ap}
use Rattle.screen_layout.specs.Placing.{given, blank_by}
use Rattle.screen_layout.proofs.ScreenGroups.{given-is}
use Rattle.screen_layout.proofs.walk.ScreenWalk.blanks.Goals as goal

pub returns : goal.returns
returns c = λ before h.
    let row = c.args.row.now in
    let blank = given-is (λ r. r.own.blank) before row c.args.self.now.lead.blank c.lead_with-lead.result.blank h.lead.blank c.lead_with-lead.ensures.blank in
    let erase = given-is (λ r. r.own.erase) before row c.args.self.now.lead.erase c.lead_with-lead.result.erase h.lead.erase c.lead_with-lead.ensures.erase in
    c.blank_from.ensures ∙ ap (λ x. blank_by x c.lead_with-lead.result.erase) blank ∙ ap (λ x. blank_by (given (λ r. r.own.blank) before row) x) erase

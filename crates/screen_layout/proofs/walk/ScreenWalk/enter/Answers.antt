use Rattle.std.proofs.Common.{◌∙◌, ap, sym, rules, ◌++◌, ◌∷◌, []}
use Rattle.std.specs.Prelude.{filter, if◌then◌else◌}
use Rattle.std.proofs.lemmas.Fn.{filter_same}
use Rattle.screen_layout.specs.Placing.{goes_on, begun, end_of, end_after}
use Rattle.screen_layout.proofs.ScreenGroups.{opened-push, lead-is, end_after-push}
use Rattle.screen_layout.proofs.walk.ScreenWalk.enter.Goals as goal

pub returns : goal.returns
returns c = λ before h.
    let row = c.args.row.now in
    let kept = filter_same _ (λ group. goes_on group row) _ (λ x r f' k. search rules) _ _ c.retain.ensures.filtered ∙ ap (filter (λ group. goes_on group row)) h.rows in
    let start = c.place-start.ensures before h in
    record {
      rows = c.in_ok-push.ensures.items ∙ ap (λ rows. rows ++ row ∷ []) kept ∙ sym (opened-push before row);
      lead = record {
        line = lead-is (λ r. r.own.line) before row c.args.self.now.lead.line c.next_lead-self.result.line h.lead.line c.next_lead-self.ensures.line;
        column = lead-is (λ r. r.own.column) before row c.args.self.now.lead.column c.next_lead-self.result.column h.lead.column c.next_lead-self.ensures.column;
        blank = lead-is (λ r. r.own.blank) before row c.args.self.now.lead.blank c.next_lead-self.result.blank h.lead.blank c.next_lead-self.ensures.blank;
        erase = lead-is (λ r. r.own.erase) before row c.args.self.now.lead.erase c.next_lead-self.result.erase h.lead.erase c.next_lead-self.ensures.erase;
      };
      last_end = c.next_end-self.ensures ∙ ap (λ x. if row.group then begun x row else end_of c.place-start.result row.size) h.last_end
          ∙ ap (λ x. if row.group then begun (end_after before) row else end_of x row.size) start ∙ sym (end_after-push before row);
    }

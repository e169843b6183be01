use Rattle.std.proofs.Common.{◌∙◌, ap, sym}
use Rattle.std.proofs.Common.{◌++◌, ◌∷◌, []}
use Rattle.data_layout.specs.Storage.{times}
use Rattle.data_layout.specs.Walk.{counted}
use Rattle.data_layout.proofs.Totals.{entered}
use Rattle.data_layout.proofs.Groups.{opened-push}
use Rattle.data_layout.proofs.walk.Walk.enter.Goals as goal

pub returns : goal.returns
returns c = λ before h.
    let often = c.product.ensures ∙ ap (λ rows. counted (times rows)) (c.as_slice.ensures.value ∙ h.rows) in
    record {
      rows = c.in_ok-push.ensures.items ∙ ap (λ rows. rows ++ c.args.row.now ∷ []) h.rows ∙ sym (opened-push before c.args.row.now);
      total = entered _ before c.args.row.now c.args.self.now.total c.occurrences.result c.product.result c.saturating_mul-often.result c.own_bytes.result c.saturating_mul.result _
          h.total often c.occurrences.ensures c.saturating_mul-often.ensures c.own_bytes.ensures c.saturating_mul.ensures c.saturating_add-self.ensures;
    }

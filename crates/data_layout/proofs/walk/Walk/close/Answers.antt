use Rattle.std.proofs.Common.{◌∙◌, ap, rules}
use Rattle.std.specs.Prelude.{filter}
use Rattle.std.proofs.lemmas.Fn.{filter_same}
use Rattle.data_layout.specs.Storage.{goes_on}
use Rattle.data_layout.proofs.walk.Walk.close.Goals as goal

pub returns : goal.returns
returns c = λ before h. record {
  rows = filter_same _ (λ group. goes_on group c.args.row.now) _ (λ x r f' k. search rules) _ _ c.retain.ensures.filtered ∙ ap (filter (λ group. goes_on group c.args.row.now)) h.rows;
  total = h.total;
}

use Rattle.std.proofs.Common.{◌∙◌}
use Rattle.data_layout.proofs.Totals.{product_more}
use Rattle.data_layout.proofs.walk.product.Goals as goal

pub loop-row-preserved : goal.loop-row-preserved
loop-row-preserved c = c.saturating_mul-product.ensures ∙ product_more _ c.args.rows.now c.loop-row.row-index _ c.loop-row.product c.occurrences.result c.loop-row.invariant c.occurrences.ensures c.loop-row-test.true

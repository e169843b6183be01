use Rattle.std.proofs.Common.{◌∙◌, ap, None}
use Rattle.data_layout.specs.Faults.{goes_deeper}
use Rattle.data_layout.specs.Walk.{any_level}
use Rattle.data_layout.specs.Storage.{last_of}
use Rattle.data_layout.proofs.Groups.{last_of-opened}
use Rattle.data_layout.proofs.JudgedRows.{level_is}
use Rattle.data_layout.proofs.judging.does_level_fit.Goals as goal

pub returns : goal.returns
returns c = λ before h. level_is before c.args.row.now c.does_go_deeper-deeper.result c.has_rank-returns.result _
    (c.does_go_deeper-deeper.ensures ∙ ap (λ rows. goes_deeper (last_of rows) c.args.row.now) (c.as_slice.ensures.value ∙ h.rows) ∙ ap (λ o. goes_deeper o c.args.row.now) (last_of-opened None before))
    (c.has_rank-returns.ensures ∙ ap (any_level c.args.row.now) h.rows) c.is_level_good.ensures

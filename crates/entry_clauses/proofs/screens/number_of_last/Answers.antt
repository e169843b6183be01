use Rattle.std.proofs.Common.{◌∙◌, ap}
use Rattle.std.specs.Prelude.{option_map}
use Rattle.data_layout.specs.declared.row.Row.{Row}
use Rattle.entry_clauses.proofs.ScreensOf.{last_or-is}
use Rattle.entry_clauses.proofs.screens.number_of_last.Goals as goal

pub returns-in-Some : goal.returns-in-Some
returns-in-Some c = ap (option_map (λ (row : Row). row.number)) (c.in-Some.ensures.value ∙ last_or-is c.args.rows.now)

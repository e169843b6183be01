use Rattle.std.proofs.Common.{◌∙◌, ap}
use Rattle.std.specs.Prelude.{option_map}
use Rattle.data_names.specs.declared.facts.OpenGroup.{OpenGroup}
use Rattle.data_names.proofs.Opened.{last_or-is}
use Rattle.data_names.proofs.facts.number_of_last.Goals as goal

pub returns-in-Some : goal.returns-in-Some
returns-in-Some c = ap (option_map (λ (group : OpenGroup). group.row.number)) (c.in-Some.ensures.value ∙ last_or-is c.args.groups.now)

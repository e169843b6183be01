use Rattle.std.proofs.Common.{◌∙◌, ap}
use Rattle.data_names.specs.Names.{is_number}
use Rattle.data_names.proofs.Opened.{last_or-is}
use Rattle.data_names.proofs.names.ends_with.Goals as goal

pub returns-in-Some : goal.returns-in-Some
returns-in-Some c = ap (is_number c.args.at) (c.in-Some.ensures.value ∙ last_or-is c.args.numbers.now)

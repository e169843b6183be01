use Rattle.std.proofs.Common.{◌∙◌, ap}
use Rattle.screen_names.specs.Names.{is_only}
use Rattle.screen_names.proofs.directory.Directory.find.Goals as goal

pub returns : goal.returns
returns c = c.only_match.ensures ∙ ap is_only (c.in_ok-numbers.ensures c.args.items.now c.requires)

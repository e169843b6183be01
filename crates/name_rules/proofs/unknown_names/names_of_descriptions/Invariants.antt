-- The names so far.
use Rattle.std.proofs.Common.{take, map}
use Rattle.name_rules.specs.NameKeys.{AreKeys}
use Rattle.name_rules.proofs.unknown_names.names_of_descriptions.Given as goal

abbrev pub invariant-loop-description : goal.invariant-loop-description
invariant-loop-description l = AreKeys (map (λ description. description.name) (take l.description-index l.descriptions)) l.names

-- Those of the 88 entries so far.
use Rattle.std.proofs.Common.{◌≡◌, ◌++◌, take, map}
use Rattle.name_rules.specs.SeenMentions.{seen_mention}
use Rattle.procedure_names.specs.SeenNames.{seen_condition}
use Rattle.procedure_names.proofs.mentions.all_references.Given as goal

abbrev pub invariant-loop-condition : goal.invariant-loop-condition
invariant-loop-condition l = map seen_mention l.all.items ≡ map seen_mention l.items ++ map seen_condition (take l.condition-index l.conditions)

-- The names so far.
use Rattle.std.proofs.Common.{take, map}
use Rattle.name_rules.specs.NameKeys.{AreKeys}
use Rattle.procedure_names.proofs.double_paragraphs.names_of.Given as goal

abbrev pub invariant-loop-one : goal.invariant-loop-one
invariant-loop-one l = AreKeys (map (λ one. one.name.now) (take l.one-index l.all)) l.names

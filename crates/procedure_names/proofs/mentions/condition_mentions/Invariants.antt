-- Those of the statements so far.
use Rattle.std.proofs.Common.{[], take, map}
use Rattle.std.specs.List.{flat_map}
use Rattle.cob_base.specs.declared.divisions.Front.{Front}
use Rattle.data_names.specs.Table.{items_of}
use Rattle.name_rules.specs.Mentions.{mention}
use Rattle.statement_parts.specs.References as r
use Rattle.statement_parts.specs.Seen.{seen_all}
use Rattle.procedure_names.specs.SeenConditions.{AreConditions}
use Rattle.procedure_names.specs.SeenNames.{AddsConditions}
use Rattle.procedure_names.proofs.mentions.condition_mentions.Given as goal

abbrev pub invariant-loop-one : goal.invariant-loop-one
invariant-loop-one l = (front : Front) → AreConditions front (items_of l.table) l.conditions
    → AddsConditions front (items_of l.table) (flat_map (λ one. map (mention one.line) (r.conditions_of one.item)) (take l.one-index (seen_all l.statements))) [] l.mentions.items

-- Those of the names so far.
use Rattle.std.proofs.Common.{take, map}
use Rattle.cob_base.specs.declared.divisions.Front.{Front}
use Rattle.data_names.specs.Table.{items_of}
use Rattle.name_rules.specs.Mentions.{mention}
use Rattle.statement_parts.specs.Seen.{seen_all}
use Rattle.procedure_names.specs.SeenConditions.{AreConditions}
use Rattle.procedure_names.specs.SeenNames.{AddsConditions}
use Rattle.procedure_names.proofs.mentions.add_conditions.Given as goal

abbrev pub invariant-loop-name : goal.invariant-loop-name
invariant-loop-name l = (front : Front) → AreConditions front (items_of l.table) l.conditions
    → AddsConditions front (items_of l.table) (map (mention l.one.line) (take l.name-index (seen_all l.name-items))) l.initial.mentions.items l.mentions.items

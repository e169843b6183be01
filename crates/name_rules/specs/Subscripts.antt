-- Reason 13: subscripts where there is no OCCURS, and none where there is.
use Rattle.std.specs.Prelude.{Bool, false, not, ◌&&◌, ◌||◌, List, map, filter, Option, Some, None, is_some}
use Rattle.cob_base.specs.declared.line.Line.{Line}
use Rattle.cob_base.specs.declared.divisions.Front.{Front}
use Rattle.data_names.specs.Items.{DataItem}
use Rattle.data_names.specs.Spots.{Spot, is_table}
use Rattle.data_names.specs.References.{found}
use Rattle.name_rules.specs.Mentions.{mentions}

-- an item with OCCURS in or above it has a subscript, any other has none
abbrev pub is_miscounted : Bool → Option (Spot DataItem) → Bool
is_miscounted subscripted None = false
is_miscounted subscripted (Some spot) = (subscripted && not (is_table spot)) || (not subscripted && is_table spot)

abbrev pub miscounted_subscripts : Front → List DataItem → List Line
miscounted_subscripts front items =
    map (λ one. one.line) (filter (λ one. is_miscounted (is_some one.reference.subscript) (found items one.reference)) (mentions front))

-- The faults of a front, reason by reason.
use Rattle.std.specs.Prelude.{List, ◌++◌}
use Rattle.cob_base.specs.declared.divisions.Front.{Front}
use Rattle.name_rules.specs.declared.fault.Fault.{Fault}
use Rattle.data_names.specs.Items.{DataItem}
use Rattle.entry_clauses.specs.ScreenItems.{ScreenItem}
use Rattle.name_rules.specs.UnknownNames.{unknown_names, ambiguous_names}
use Rattle.name_rules.specs.DoubleNames.{double_names}
use Rattle.front_rules.specs.Pictures.{bad_pictures}
use Rattle.front_rules.specs.Limits.{past_limits}
use Rattle.front_rules.specs.Kinds.{wrong_kinds}
use Rattle.key_rules.specs.KeyPlaces.{bad_key_places}
use Rattle.front_rules.specs.Outside.{left_out}
use Rattle.screen_rules.specs.Placing.{off_screen}
use Rattle.name_rules.specs.Subscripts.{miscounted_subscripts}
use Rattle.name_rules.specs.Faults.{faults_at}

-- all faults of a front
abbrev pub front_faults : Front → List DataItem → List ScreenItem → List Fault
front_faults front items screens =
    faults_at 1 (unknown_names front items)
    ++ faults_at 2 (ambiguous_names front items)
    ++ faults_at 3 (double_names front items screens)
    ++ faults_at 4 (bad_pictures items screens)
    ++ faults_at 5 (past_limits front items screens)
    ++ faults_at 6 (wrong_kinds front items screens)
    ++ faults_at 7 (bad_key_places front items)
    ++ faults_at 10 (left_out front items screens)
    ++ faults_at 11 (off_screen screens)
    ++ faults_at 13 (miscounted_subscripts front items)

-- The faults of the names so far.
use Rattle.std.proofs.Common.{◌≡◌, ◌++◌, [], take, map}
use Rattle.std.specs.List.{list_any}
use Rattle.name_rules.specs.DoubleNames.{clashes}
use Rattle.name_rules.specs.SeenNames.{seen_declared, AreKnownNames}
use Rattle.name_rules.specs.Faults.{faults_at}
use Rattle.name_rules.proofs.Later.{tested_after}
use Rattle.name_rules.proofs.double_names.note_clashes.Given as goal

abbrev pub invariant-loop-one : goal.invariant-loop-one
invariant-loop-one l = record {
  known : AreKnownNames (take l.one-index (map seen_declared l.names)) l.known;
  found : l.faults.found.items
      ≡ l.initial.faults.found.items
      ++ faults_at 3 (tested_after (λ one. one.line) (λ before one. list_any (λ earlier. clashes earlier one) before) [] (take l.one-index (map seen_declared l.names)));
}

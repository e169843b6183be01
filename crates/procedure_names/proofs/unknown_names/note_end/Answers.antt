use Rattle.std.proofs.Common.{◌≡◌, refl, not, Bool, true, false, [], ◌∷◌}
use Rattle.std.specs.Prelude.{if◌then◌else◌}
use Rattle.cob_base.specs.declared.line.Line.{Line}
use Rattle.name_rules.specs.Faults.{faults_at, fault_where}

end_noted : (same : Bool) (line : Line) → fault_where (not same) 1 line ≡ faults_at 1 (if same then [] else line ∷ [])
end_noted true line = refl
end_noted false line = refl

-- Faults of two lists of lines, one after the other.
use Rattle.std.proofs.Common.{◌≡◌, ◌∙◌, sym, ap, ℕ, List, ◌++◌, append_assoc}
use Rattle.std.proofs.lemmas.List.{map-append}
use Rattle.cob_base.specs.declared.line.Line.{Line}
use Rattle.name_rules.specs.declared.fault.Fault.{Fault}
use Rattle.name_rules.specs.Faults.{faults_at}

pub noted_lines : (n : ℕ) (first second : List Line) (old middle new : List Fault) → middle ≡ old ++ faults_at n first → new ≡ middle ++ faults_at n second
    → new ≡ old ++ faults_at n (first ++ second)
noted_lines n first second old middle new m k =
    k ∙ ap (λ l. l ++ faults_at n second) m ∙ append_assoc old (faults_at n first) (faults_at n second) ∙ ap (λ l. old ++ l) (sym (map-append _ first second))

-- The faults so far.
use Rattle.std.proofs.Common.{◌≡◌, ◌++◌, take, map}
use Rattle.std.specs.Prelude.{filter}
use Rattle.std.specs.List.{flat_map}
use Rattle.procedure_rules.specs.Phrases.{is_outside_sentence}
use Rattle.name_rules.specs.Faults.{faults_at}
use Rattle.procedure_rules.proofs.phrases.note_outside_in.Given as goal

abbrev pub invariant-loop-paragraph : goal.invariant-loop-paragraph
invariant-loop-paragraph l = l.faults.found.items ≡ l.initial.faults.found.items ++ faults_at 10 (map (λ one. one.line) (filter (λ one. is_outside_sentence one.item) (flat_map (λ paragraph. paragraph.sentences) (take l.paragraph-index l.paragraphs))))

-- The faults so far.
use Rattle.std.proofs.Common.{◌≡◌, ◌++◌, take, map}
use Rattle.std.specs.Prelude.{filter}
use Rattle.procedure_rules.specs.Phrases.{is_outside_sentence}
use Rattle.name_rules.specs.Faults.{faults_at}
use Rattle.procedure_rules.proofs.phrases.note_outside_sentences.Given as goal

abbrev pub invariant-loop-sentence : goal.invariant-loop-sentence
invariant-loop-sentence l = l.faults.found.items ≡ l.initial.faults.found.items ++ faults_at 10 (map (λ one. one.line) (filter (λ one. is_outside_sentence one.item) (take l.sentence-index l.sentences)))

-- The statements so far.
use Rattle.std.proofs.Common.{◌≡◌, ◌++◌, take}
use Rattle.std.specs.List.{flat_map}
use Rattle.statement_parts.specs.Statements.{in_sentence}
use Rattle.statement_parts.specs.Seen.{seen_all}
use Rattle.statement_parts.proofs.listed.add_paragraph.Given as goal

abbrev pub invariant-loop-sentence : goal.invariant-loop-sentence
invariant-loop-sentence l = seen_all l.all.items ≡ seen_all l.initial.all.items ++ flat_map (λ sentence. in_sentence sentence.item) (take l.sentence-index l.sentence-items)

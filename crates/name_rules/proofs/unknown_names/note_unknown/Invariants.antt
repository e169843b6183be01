-- The faults of those so far.
use Rattle.std.proofs.Common.{◌≡◌, ◌++◌, ◌==◌, List, All, take, map}
use Rattle.std.specs.Prelude.{filter}
use Rattle.data_names.specs.Items.{DataItem}
use Rattle.data_names.specs.References.{count_of_matches}
use Rattle.name_rules.specs.Faults.{faults_at}
use Rattle.name_rules.specs.SeenMentions.{IsFoundMention, seen_mention}
use Rattle.name_rules.proofs.unknown_names.note_unknown.Given as goal

abbrev pub invariant-loop-mention : goal.invariant-loop-mention
invariant-loop-mention l = (items : List DataItem) → All (IsFoundMention items) l.mentions
    → l.faults.found.items ≡ l.initial.faults.found.items ++ faults_at 1 (map (λ one. one.line) (filter (λ one. count_of_matches items one.reference == 0) (take l.mention-index (map seen_mention l.mentions))))

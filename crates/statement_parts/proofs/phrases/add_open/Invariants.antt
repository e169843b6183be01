-- The RETRY phrases so far.
use Rattle.std.proofs.Common.{◌≡◌, ◌++◌, take}
use Rattle.std.specs.List.{flat_map}
use Rattle.statement_parts.specs.Phrases.{retry_of_phrase}
use Rattle.statement_parts.specs.Seen.{seen_all}
use Rattle.statement_parts.proofs.phrases.add_open.Given as goal

abbrev pub invariant-loop-phrase : goal.invariant-loop-phrase
invariant-loop-phrase l = seen_all l.all.items ≡ seen_all l.initial.all.items ++ flat_map retry_of_phrase (take l.phrase-index l.phrases)

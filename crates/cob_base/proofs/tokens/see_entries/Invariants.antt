use Rattle.std.proofs.Common.{◌≡◌, map, take}
use Rattle.cob_base.specs.Token.{seen_entry}
use Rattle.cob_base.proofs.tokens.see_entries.Given as goal

abbrev pub invariant-loop-entry : goal.invariant-loop-entry
invariant-loop-entry l = l.seen ≡ map seen_entry (take l.entry-index l.entries)

use Rattle.std.proofs.Common.{◌≡◌, map, take}
use Rattle.cob_base.specs.Token.{token_at}
use Rattle.cob_base.proofs.tokens.see_words.Given as goal

abbrev pub invariant-loop-spoken : goal.invariant-loop-spoken
invariant-loop-spoken l = l.tokens ≡ map token_at (take l.spoken-index l.words)

use Rattle.std.proofs.Common.{sym, subst, arith}
use Rattle.std.proofs.lemmas.List.Elements.{All-get_or}
use Rattle.perform_cycles.specs.Lowest.{IsLevel}
use Rattle.perform_cycles.proofs.lowest.Lowest.block.Goals as goal

pub returns-then-level-len-clause-low : goal.returns-then-level-len-clause-low
returns-then-level-len-clause-low c = λ numbers all.
    c.block.ensures.low numbers (subst (IsLevel numbers) (sym c.index-level.ensures)
    (All-get_or (IsLevel numbers) c.args.self.now.levels.items c.args.level c.index-level.result.now (omega (arith, c.if-level-len.true, c.len.ensures)) all))

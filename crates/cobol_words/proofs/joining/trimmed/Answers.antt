use Rattle.std.proofs.Common.{◌∙◌, sym, arith}
use Rattle.cobol_words.proofs.Trims.{trimmed_kept, trimmed_less}
use Rattle.cobol_words.proofs.joining.trimmed.Goals as goal

pub returns-then-text-len-ne32 : goal.returns-then-text-len-ne32
returns-then-text-len-ne32 c = sym (trimmed_kept c.args.text.now c.loop-len.len (omega arith) (omega arith) c.if-text-len-ne32.true) ∙ c.loop-len.invariant.same

pub loop-len-preserved : goal.loop-len-preserved
loop-len-preserved c = record {
  within = omega arith;
  same = trimmed_less c.args.text.now c.loop-len.len (omega arith) (omega arith) c.if-text-len-ne32.false ∙ c.loop-len.invariant.same;
}

use Rattle.std.proofs.Common.{◌∙◌, sym}
use Rattle.cobol_words.proofs.Wishes.{mark_kept, mark_cut}
use Rattle.cobol_words.proofs.picture.less_final_mark.Goals as goal

pub returns-then-not-is_final_mark : goal.returns-then-not-is_final_mark
returns-then-not-is_final_mark c = mark_kept c.args.run.now (sym c.is_final_mark.ensures ∙ c.if-not-is_final_mark.true)

pub returns : goal.returns
returns c = mark_cut c.args.run.now (sym c.is_final_mark.ensures ∙ c.if-not-is_final_mark.false)

use Rattle.std.proofs.Common.{refl, sym, ◌∙◌}
use Rattle.cobol_cmd.proofs.Tails.{same_tail}
use Rattle.cobol_cmd.proofs.small.after_screen_item.Goals as goal

pub returns-in_err-rest-2-clause-none : goal.returns-in_err-rest-2-clause-none
returns-in_err-rest-2-clause-none c = λ none line column bytes rest low high same.
    let from_line = same_tail 2 _ _ _ c.in_ok-rest.ensures.found same in
    c.in_err-rest-2.ensures.none refl _ (same_tail 1 _ _ _ c.in_ok-line.ensures.found from_line)

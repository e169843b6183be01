use Rattle.std.proofs.Common.{refl}
use Rattle.cobol_cmd.proofs.Tails.{same_tail}
use Rattle.cobol_cmd.proofs.small.displayed_screen.Goals as goal

pub returns-in_err-rest-clause-none : goal.returns-in_err-rest-clause-none
returns-in_err-rest-clause-none c = λ none screen same. c.in_err-rest.ensures.none refl _ same

pub returns-in_err-rest-2-clause-none : goal.returns-in_err-rest-2-clause-none
returns-in_err-rest-2-clause-none c = λ none screen same.
    let from_screen = same_tail 4 _ _ _ c.in_ok-rest.ensures.found same in
    c.in_err-rest-2.ensures.none refl _ (same_tail 1 _ _ _ c.in_ok-screen.ensures.found from_screen)

use Rattle.std.proofs.Common.{refl}
use Rattle.cobol_cmd.proofs.small.after_screen_heading.Goals as goal

pub returns-in_err-rest-clause-none : goal.returns-in_err-rest-clause-none
returns-in_err-rest-clause-none c = λ none screen rest same. c.in_err-rest.ensures.none refl _ same

use Rattle.std.proofs.Common.{sym, ◌∙◌}
use Rattle.std.proofs.lemmas.Result.{err_from_is_err_and}
use Rattle.phrase_parser.specs.Reading.{read_some, read_many}
use Rattle.phrase_parser.proofs.Lists as lists
use Rattle.phrase_parser.proofs.listed.many_entries.Goals as goal

pub returns-then-not-begins : goal.returns-then-not-begins
returns-then-not-begins g c = λ opened read_one tests repeats.
    rw c.new.ensures (lists.many_none opened opened read_one _ (sym (tests.tells _ _ c.begins.ensures) ∙ c.if-not-begins.true))

pub returns-in_err-found : goal.returns-in_err-found
returns-in_err-found g c = λ opened read_one tests repeats.
    let p = err_from_is_err_and c.from_residual.result c.from_residual.ensures.1 in
    rw (p.1, p.2) (lists.entry_fault_of_all _ (read_some opened read_one c.args.entries.now) (read_many opened opened read_one c.args.entries.now)
    (λ reason h. lists.many_fails opened opened read_one _ reason (sym (tests.tells _ _ c.begins.ensures) ∙ c.if-not-begins.false) h)
    (c.in_err-found.ensures opened read_one tests repeats))

pub returns : goal.returns
returns g c = λ opened read_one tests repeats.
    lists.many_found opened opened read_one _ _ _ (sym (tests.tells _ _ c.begins.ensures) ∙ c.if-not-begins.false) (c.in_ok-found.ensures opened read_one tests repeats)

use Rattle.std.proofs.Common.{sym, ◌∙◌}
use Rattle.std.proofs.lemmas.Result.{err_from_is_err_and}
use Rattle.phrase_parser.specs.Reading.{read_some, read_many}
use Rattle.phrase_parser.proofs.Lists as lists
use Rattle.phrase_parser.proofs.listed.many.Goals as goal

pub returns-then-not-opens : goal.returns-then-not-opens
returns-then-not-opens g c = λ opened opened_list read_one tests tests_list repeats.
    rw c.new.ensures (lists.many_none opened opened_list read_one _ (sym (tests_list.tells _ _ c.opens.ensures) ∙ c.if-not-opens.true))

pub returns-in_err-found : goal.returns-in_err-found
returns-in_err-found g c = λ opened opened_list read_one tests tests_list repeats.
    let p = err_from_is_err_and c.from_residual.result c.from_residual.ensures.1 in
    rw (p.1, p.2) (lists.fault_of_all _ (read_some opened read_one c.args.words.now) (read_many opened opened_list read_one c.args.words.now)
    (λ reason h. lists.many_fails opened opened_list read_one _ reason (sym (tests_list.tells _ _ c.opens.ensures) ∙ c.if-not-opens.false) h)
    (c.in_err-found.ensures opened read_one tests repeats))

pub returns : goal.returns
returns g c = λ opened opened_list read_one tests tests_list repeats.
    lists.many_found opened opened_list read_one _ _ _ (sym (tests_list.tells _ _ c.opens.ensures) ∙ c.if-not-opens.false) (c.in_ok-found.ensures opened read_one tests repeats)

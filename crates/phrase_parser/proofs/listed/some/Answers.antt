use Rattle.std.proofs.Common.{sym, ◌∙◌}
use Rattle.std.proofs.lemmas.Result.{err_from_is_err_and}
use Rattle.phrase_parser.specs.Reading.{read_some}
use Rattle.phrase_parser.proofs.Lists as lists
use Rattle.phrase_parser.proofs.listed.some.Goals as goal

pub returns-in_err-first : goal.returns-in_err-first
returns-in_err-first g c = λ opened read_one tests repeats.
    let p = err_from_is_err_and c.from_residual.result c.from_residual.ensures.1 in
    rw (p.1, p.2) (lists.fault_of_all _ (read_one c.args.words.now) (read_some opened read_one c.args.words.now)
    (λ reason h. lists.never_begins opened read_one _ reason h) (repeats.gives c.args.alloc c.args.words _ c.in_err-first.ensures))

pub loop-turn-init : goal.loop-turn-init
loop-turn-init g c = λ opened read_one tests repeats.
    lists.begins opened read_one _ _ _ _ _ (repeats.gives c.args.alloc c.args.words _ c.in_ok-first.ensures) c.new-all.ensures c.in_ok-push.ensures.ok

pub returns-then-not-opens : goal.returns-then-not-opens
returns-then-not-opens g c = λ opened read_one tests repeats.
    lists.stops opened read_one _ _ _ _ _ (c.loop-turn.invariant opened read_one tests repeats) c.loop-turn-test.true (sym (tests.tells _ _ c.opens.ensures) ∙ c.if-not-opens.true)

pub returns-in_err-next : goal.returns-in_err-next
returns-in_err-next g c = λ opened read_one tests repeats.
    let p = err_from_is_err_and c.from_residual-in_err-next.result c.from_residual-in_err-next.ensures.1 in
    rw (p.1, p.2) (lists.fault_of_all _ (read_one c.loop-turn.rest.now) (read_some opened read_one c.args.words.now)
    (λ reason h. lists.fails opened read_one _ _ _ _ _ (c.loop-turn.invariant opened read_one tests repeats) reason c.loop-turn-test.true (sym (tests.tells _ _ c.opens.ensures) ∙ c.if-not-opens.false) h)
    (repeats.gives c.args.alloc c.loop-turn.rest _ c.in_err-next.ensures))

pub loop-turn-preserved : goal.loop-turn-preserved
loop-turn-preserved g c = λ opened read_one tests repeats.
    lists.goes_on opened read_one _ _ _ _ _ (c.loop-turn.invariant opened read_one tests repeats) _ _ _ c.loop-turn-test.true (sym (tests.tells _ _ c.opens.ensures) ∙ c.if-not-opens.false) (repeats.gives c.args.alloc c.loop-turn.rest _ c.in_ok-next.ensures) c.in_ok-push-2.ensures.ok

pub returns : goal.returns
returns g c = λ opened read_one tests repeats.
    lists.ends opened read_one _ _ _ _ _ (c.loop-turn.invariant opened read_one tests repeats) c.loop-turn-test.false

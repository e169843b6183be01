use Rattle.std.proofs.Common.{sym, ◌∙◌}
use Rattle.std.proofs.lemmas.Result.{err_from_is_err_and}
use Rattle.phrase_parser.specs.Reading.{read_some}
use Rattle.phrase_parser.proofs.Lists as lists
use Rattle.phrase_parser.proofs.listed.some_entries.Goals as goal

pub returns-in_err-first : goal.returns-in_err-first
returns-in_err-first g c = λ begun read_one tests repeats.
    let p = err_from_is_err_and c.from_residual.result c.from_residual.ensures.1 in
    rw (p.1, p.2) (lists.entry_fault_of_all _ (read_one c.args.entries.now) (read_some begun read_one c.args.entries.now)
    (λ reason h. lists.never_begins begun read_one _ reason h) (repeats.gives c.args.alloc c.args.entries _ c.in_err-first.ensures))

pub loop-turn-init : goal.loop-turn-init
loop-turn-init g c = λ begun read_one tests repeats.
    lists.begins begun read_one _ _ _ _ _ (repeats.gives c.args.alloc c.args.entries _ c.in_ok-first.ensures) c.new-all.ensures c.in_ok-push.ensures.ok

pub returns-then-not-begins : goal.returns-then-not-begins
returns-then-not-begins g c = λ begun read_one tests repeats.
    lists.stops begun read_one _ _ _ _ _ (c.loop-turn.invariant begun read_one tests repeats) c.loop-turn-test.true (sym (tests.tells _ _ c.begins.ensures) ∙ c.if-not-begins.true)

pub returns-in_err-next : goal.returns-in_err-next
returns-in_err-next g c = λ begun read_one tests repeats.
    let p = err_from_is_err_and c.from_residual-in_err-next.result c.from_residual-in_err-next.ensures.1 in
    rw (p.1, p.2) (lists.entry_fault_of_all _ (read_one c.loop-turn.rest.now) (read_some begun read_one c.args.entries.now)
    (λ reason h. lists.fails begun read_one _ _ _ _ _ (c.loop-turn.invariant begun read_one tests repeats) reason c.loop-turn-test.true (sym (tests.tells _ _ c.begins.ensures) ∙ c.if-not-begins.false) h)
    (repeats.gives c.args.alloc c.loop-turn.rest _ c.in_err-next.ensures))

pub loop-turn-preserved : goal.loop-turn-preserved
loop-turn-preserved g c = λ begun read_one tests repeats.
    lists.goes_on begun read_one _ _ _ _ _ (c.loop-turn.invariant begun read_one tests repeats) _ _ _ c.loop-turn-test.true (sym (tests.tells _ _ c.begins.ensures) ∙ c.if-not-begins.false) (repeats.gives c.args.alloc c.loop-turn.rest _ c.in_ok-next.ensures) c.in_ok-push-2.ensures.ok

pub returns : goal.returns
returns g c = λ begun read_one tests repeats.
    lists.ends begun read_one _ _ _ _ _ (c.loop-turn.invariant begun read_one tests repeats) c.loop-turn-test.false

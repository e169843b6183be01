use Rattle.std.proofs.Common.{◌∙◌, sym}
use Rattle.std.proofs.lemmas.List.Sums.{prefix_len-le-length}
use Rattle.cobol_words.proofs.Takes.{IsRun, run_is}
use Rattle.cobol_words.proofs.take.take_run.Goals as goal

pub split_at-requires : goal.split_at-requires
split_at-requires c = rw c.run_len.ensures (prefix_len-le-length _ c.args.rest.now)

pub returns-then-are_digits-clause-taken : goal.returns-then-are_digits-clause-taken
returns-then-are_digits-clause-taken c =
    let split : IsRun c.args.rest.now c.split_at.result.0.now c.split_at.result.1.now = record {
      more_is = rw (← c.run_len.ensures) c.split_at.ensures.front;
      behind_is = rw (← c.run_len.ensures) c.split_at.ensures.back;
    } in
    rw (run_is c.args.cell _ _ _ c.as_slice-run.result.now split (c.as_slice-run.ensures.value ∙ c.in_ok-bytes.ensures), sym c.are_digits.ensures ∙ c.if-are_digits.true) c.take_number.ensures.taken

pub returns-clause-taken : goal.returns-clause-taken
returns-clause-taken c =
    let split : IsRun c.args.rest.now c.split_at.result.0.now c.split_at.result.1.now = record {
      more_is = rw (← c.run_len.ensures) c.split_at.ensures.front;
      behind_is = rw (← c.run_len.ensures) c.split_at.ensures.back;
    } in
    rw (run_is c.args.cell _ _ _ c.as_slice-run.result.now split (c.as_slice-run.ensures.value ∙ c.in_ok-bytes.ensures), sym c.are_digits.ensures ∙ c.if-are_digits.false) c.take_name.ensures.taken

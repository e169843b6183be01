use Rattle.std.proofs.Common.{◌≡◌, ◌∙◌, false, true, sym}
use Rattle.std.proofs.lemmas.List.Sums.{prefix_len-le-length}
use Rattle.cobol_words.specs.Words.{is_digits}
use Rattle.cobol_words.proofs.Takes.{IsRun, sign_is, digits_none, digits_some}
use Rattle.cobol_words.proofs.take.take_sign.Goals as goal
use Rattle.cobol_words.proofs.take.take_sign.Goals.{then-is_empty-via-then-is_empty, then-is_empty-via-else-is_empty+then-not-are_digits}

pub split_at-requires : goal.split_at-requires
split_at-requires c = rw c.run_len.ensures (prefix_len-le-length _ c.args.rest.now)

pub returns-then-is_empty-clause-taken : goal.returns-then-is_empty-clause-taken
returns-then-is_empty-clause-taken c =
    let split : IsRun c.args.rest.now c.split_at.result.0.now c.split_at.result.1.now = record {
      more_is = rw (← c.run_len.ensures) c.split_at.ensures.front;
      behind_is = rw (← c.run_len.ensures) c.split_at.ensures.back;
    } in
    let other : is_digits c.as_slice-digits.result.now ≡ false = elim c.then-is_empty.branch [
      | then-is_empty-via-then-is_empty w ↦ digits_none c.as_slice-digits.result.now (sym c.is_empty.ensures ∙ w.if-is_empty.true)
      | then-is_empty-via-else-is_empty+then-not-are_digits w ↦
          digits_some c.as_slice-digits.result.now (sym c.is_empty.ensures ∙ w.if-is_empty.false) ∙ sym w.are_digits.ensures ∙ w.if-not-are_digits.true
    ] in
    rw (sign_is c.args.spaced c.args.cell _ _ _ c.as_slice-digits.result.now split (c.as_slice-digits.ensures.value ∙ c.in_ok-bytes.ensures), c.if-not-spaced.false, other) c.take_mark-then-is_empty.ensures.taken

pub returns-clause-taken : goal.returns-clause-taken
returns-clause-taken c =
    let split : IsRun c.args.rest.now c.split_at.result.0.now c.split_at.result.1.now = record {
      more_is = rw (← c.run_len.ensures) c.split_at.ensures.front;
      behind_is = rw (← c.run_len.ensures) c.split_at.ensures.back;
    } in
    let digits : is_digits c.as_slice-digits.result.now ≡ true =
    digits_some c.as_slice-digits.result.now (sym c.is_empty.ensures ∙ c.if-is_empty.false) ∙ sym c.are_digits.ensures ∙ c.if-not-are_digits.false in
    rw (sign_is c.args.spaced c.args.cell _ _ _ c.as_slice-digits.result.now split (c.as_slice-digits.ensures.value ∙ c.in_ok-bytes.ensures), c.if-not-spaced.false, digits) c.take_number.ensures.taken

use Rattle.std.proofs.Common.{◌∙◌, drop, sym}
use Rattle.std.proofs.lemmas.List.Sums.{prefix_len-le-length}
use Rattle.cobol_words.proofs.Cells.{behind_first, decimals_in-cells, all_digits}
use Rattle.cobol_words.proofs.take.decimals_in.Goals as goal

pub split_at-requires : goal.split_at-requires
split_at-requires c = rw c.digits_len.ensures (prefix_len-le-length _ _)

pub returns-clause-decimals : goal.returns-clause-decimals
returns-clause-decimals c =
    rw (c.in_ok-bytes.ensures, c.split_at.ensures.front, c.digits_len.ensures, behind_first c.args.cells.now)
    (decimals_in-cells c.args.cells.now (sym c.begins_with.ensures ∙ c.if-not-begins_with.false))

pub returns-clause-digits : goal.returns-clause-digits
returns-clause-digits c = rw (c.in_ok-bytes.ensures, c.split_at.ensures.front, c.digits_len.ensures) (rw (behind_first c.args.cells.now) (all_digits (drop 1 c.args.cells.now)))

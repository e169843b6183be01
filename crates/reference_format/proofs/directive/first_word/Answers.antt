use Rattle.std.proofs.lemmas.List.Sums.{prefix_len-le-length}
use Rattle.cob_base.specs.Bytes.{behind_spaces}
use Rattle.reference_format.proofs.Directives.{words_of-behind_spaces, behind_spaces-first, first_is, along}
use Rattle.reference_format.proofs.directive.first_word.Goals as goal

pub split_at-requires : goal.split_at-requires
split_at-requires c = rw c.place_of.ensures (prefix_len-le-length _ c.without_spaces-text.result.now)

pub returns : goal.returns
returns c =
    let text = c.args.text.now in
    rw (c.split_at.ensures.front, c.split_at.ensures.back, c.place_of.ensures, c.without_spaces-text.ensures)
    (along (behind_spaces text) text _ _ (words_of-behind_spaces text) (first_is (behind_spaces text) (behind_spaces-first text)))

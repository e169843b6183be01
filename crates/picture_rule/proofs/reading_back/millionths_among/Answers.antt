use Rattle.std.proofs.Common.{subst, sym, ◌∙◌, take, get_or}
use Rattle.std.proofs.lemmas.List.{take_more}
use Rattle.picture_rule.proofs.Amounts.{Places, places_yes, places_no, places_full}
use Rattle.picture_rule.proofs.reading_back.millionths_among.Goals as goal
use Rattle.picture_rule.proofs.reading_back.millionths_among.Goals.{then-places-lt6+then-is_ascii_digit, else-places-lt6, else-places-lt6-via-then-places-lt6+else-is_ascii_digit, else-places-lt6-via-else-places-lt6}

pub loop-byte-preserved : goal.loop-byte-preserved
loop-byte-preserved c =
    let so_far = take c.loop-byte.byte-index c.args.bytes.now in
    let byte = get_or c.args.bytes.now c.loop-byte.byte-index 0 in
    subst (λ t. Places t c.if-places-lt6.number c.if-places-lt6.places) (sym (take_more c.args.bytes.now c.loop-byte.byte-index 0 c.loop-byte-test.true))
    (elim c.if-places-lt6.branch [
      | then-places-lt6+then-is_ascii_digit w ↦ rw (w.number-is, w.places-is)
          (places_yes so_far _ _ byte _ c.loop-byte.invariant w.if-places-lt6.true (sym w.is_ascii_digit.ensures.value ∙ w.if-is_ascii_digit.true) w.from.ensures)
      | else-places-lt6 w ↦ rw (w.number-is, w.places-is)
          (elim w.else-places-lt6.branch [
            | else-places-lt6-via-then-places-lt6+else-is_ascii_digit v ↦ places_no so_far _ _ byte c.loop-byte.invariant (sym v.is_ascii_digit.ensures.value ∙ v.if-is_ascii_digit.false)
            | else-places-lt6-via-else-places-lt6 v ↦ places_full so_far _ _ byte c.loop-byte.invariant v.if-places-lt6.false
          ])
    ])

use Rattle.std.proofs.Common.{◌∙◌, ap, ◌+◌, ◌-◌, ◌^◌, min}
use Rattle.picture_rule.proofs.Extends.{spanned_more}
use Rattle.std.specs.Prelude.{if◌then◌else◌}
use Rattle.picture_rule.specs.Picture.{is_digit_mark}
use Rattle.picture_rule.proofs.spans.longest_span.Goals as goal

pub loop-mark-preserved : goal.loop-mark-preserved
loop-mark-preserved c =
    let found = c.in-Some.ensures.found in
    let more = spanned_more _ _ _ _ _ _ found.0 _ c.loop-mark.invariant found.2 in (
      more.0,
      more.1,
      more.2,
      c.saturating_add-length.ensures ∙ ap (λ t. min (c.loop-mark.length + t) (2 ^ 64 - 1)) found.1 ∙ more.3,
      c.saturating_add-digits.ensures ∙ ap (λ d. min (c.loop-mark.digits + d) (2 ^ 64 - 1)) (c.digits_of.ensures ∙ ap (λ t. if is_digit_mark c.in-Some.mark then t else 0) found.1) ∙ more.4,
    )

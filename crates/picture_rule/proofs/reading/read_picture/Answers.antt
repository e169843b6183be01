use Rattle.std.proofs.Common.{◌≡◌, ◌==◌, ap, ◌∙◌, min}
use Rattle.std.proofs.lemmas.Bool.{both_ways}
use Rattle.picture_rule.specs.declared.fault.PictureFault.TheVariants as faults
use Rattle.picture_rule.proofs.Results.{fits, fault_is, too_wide_is, is_too_wide, is_whole, whole_once, same_too_wide}
use Rattle.picture_rule.proofs.reading.read_picture.Goals as goal

pub returns-then-is_within-clause-no_picture : goal.returns-then-is_within-clause-no_picture
returns-then-is_within-clause-no_picture c = (
  λ e. absurd (let bad : faults.NoPicture ≡ faults.NoMemory = fault_is _ _ c.picture_within.ensures.fault e in cc),
  λ none. let f = c.in-Some.ensures.found in absurd (none f.0 f.1 f.2),
)

pub returns-then-is_within-clause-too_wide : goal.returns-then-is_within-clause-too_wide
returns-then-is_within-clause-too_wide c kind size signed whole = (
  λ e. absurd (let bad : faults.TooWide kind size signed whole ≡ faults.NoMemory = fault_is _ _ c.picture_within.ensures.fault e in cc),
  λ t. absurd (t.0.3 (fits _ t.0.1 (c.in-Some.ensures.only t.0.0 t.0.1 t.0.2) (c.is_within.ensures.0 c.if-is_within.true))),
)

pub returns-in-None-clause-too_wide : goal.returns-in-None-clause-too_wide
returns-in-None-clause-too_wide c kind size signed whole = (
  λ e. absurd (let bad : faults.NoPicture ≡ faults.TooWide kind size signed whole = cc in cc),
  λ t. absurd (c.in-None.ensures.only t.0.0 t.0.1 t.0.2),
)

pub returns-else-is_within-clause-no_picture : goal.returns-else-is_within-clause-no_picture
returns-else-is_within-clause-no_picture c = (
  λ e. absurd (let bad : faults.TooWide c.in-Some.outline.kind c.min.result c.in-Some.outline.signed (c.in-Some.outline.decimals == 0) ≡ faults.NoPicture = cc in cc),
  λ none. let f = c.in-Some.ensures.found in absurd (none f.0 f.1 f.2),
)

pub returns-else-is_within-clause-too_wide : goal.returns-else-is_within-clause-too_wide
returns-else-is_within-clause-too_wide c kind size signed whole =
    let told = c.min.ensures ∙ ap (λ n. min c.in-Some.outline.size n) c.from.ensures in
    let f = c.in-Some.ensures.found in
    let wide = is_too_wide _ _ _ f.0 f.1 f.2 f.3 told (λ w. both_ways _ c.if-is_within.false (c.is_within.ensures.1 w)) in
    let none = is_whole _ c.in-Some.outline f.0 f.1 f.2 c.in-Some.ensures.only in (
      λ e. (let same : faults.TooWide c.in-Some.outline.kind c.min.result c.in-Some.outline.signed (c.in-Some.outline.decimals == 0) ≡ faults.TooWide kind size signed whole = cc in
          same_too_wide _ _ _ _ _ _ _ _ _ same wide none),
      λ t. (let is = too_wide_is _ c.in-Some.outline kind size _ signed c.in-Some.ensures.only told t.0 in
          let k : c.in-Some.outline.kind ≡ kind = is.0 in let n : c.min.result ≡ size = is.1 in let s : c.in-Some.outline.signed ≡ signed = is.2 in
          let w : (c.in-Some.outline.decimals == 0) ≡ whole = whole_once _ _ _ none t.1 in cc),
    )

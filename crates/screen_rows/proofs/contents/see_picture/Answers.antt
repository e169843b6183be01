use Rattle.std.proofs.Common.{refl, ◌∙◌, ap, inl, inr}
use Rattle.screen_rows.specs.Rows.{unless_signed}
use Rattle.screen_rows.proofs.contents.see_picture.Goals as goal

pub returns-in-Ok : goal.returns-in-Ok
returns-in-Ok c = λ value.
    let read = c.in-Ok.ensures.picture in
    inr (inr (read.0, read.1, read.2, read.3, c.see_read.ensures.size ∙ ap (λ p. unless_signed p.signed p.size) read.4, c.see_read.ensures.picture ∙ ap (λ p. unless_signed p.signed p) read.4))

pub returns-in-Err-NoPicture : goal.returns-in-Err-NoPicture
returns-in-Err-NoPicture c = λ value.
    let none = rw c.in-Err-NoPicture.field-0-is at c.in-Err-NoPicture.ensures.no_picture in
    inl (none.0 refl, refl, refl)

pub returns-in-Err-TooWide : goal.returns-in-Err-TooWide
returns-in-Err-TooWide c = λ value.
    let wide = rw c.in-Err-TooWide.field-0-is at c.in-Err-TooWide.ensures.too_wide in
    inr (inl (c.in-Err-TooWide.field-0-0, c.in-Err-TooWide.size, c.in-Err-TooWide.signed, ((wide c.in-Err-TooWide.field-0-0 c.in-Err-TooWide.size c.in-Err-TooWide.signed c.in-Err-TooWide.field-0-3).0 refl).0, c.size_unless.ensures, refl))

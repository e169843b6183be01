use Rattle.std.proofs.Common.{refl}
use Rattle.data_layout.proofs.reading.read_text.Goals as goal

pub returns-in-Err-NoPicture : goal.returns-in-Err-NoPicture
returns-in-Err-NoPicture c =
    let seen = c.no_picture.ensures in
    let none = rw c.in-Err-NoPicture.field-0-is at c.in-Err-NoPicture.ensures.no_picture in
    rw seen.spelled (none.0 refl, seen.size, seen.picture)

pub returns-in-Err-TooWide : goal.returns-in-Err-TooWide
returns-in-Err-TooWide c =
    let wide = rw c.in-Err-TooWide.field-0-is at c.in-Err-TooWide.ensures.too_wide in
    ((c.in-Err-TooWide.field-0-0, c.in-Err-TooWide.size, c.in-Err-TooWide.signed, ((wide c.in-Err-TooWide.field-0-0 c.in-Err-TooWide.size c.in-Err-TooWide.signed c.in-Err-TooWide.field-0-3).0 refl).0, cc), refl)

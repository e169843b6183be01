use Rattle.std.proofs.Common.{refl, ◌∙◌}
use Rattle.data_names.proofs.Forms.{whole_read, whole_unread}
use Rattle.data_names.proofs.known.tell_text.Goals as goal

pub returns-in-Err-NoPicture-clause-told : goal.returns-in-Err-NoPicture-clause-told
returns-in-Err-NoPicture-clause-told c =
    let none = rw c.in-Err-NoPicture.field-0-is at c.in-Err-NoPicture.ensures.no_picture in
    (none.0 refl, refl)

pub returns-in-Err-TooWide-clause-told : goal.returns-in-Err-TooWide-clause-told
returns-in-Err-TooWide-clause-told c =
    let wide = rw c.in-Err-TooWide.field-0-is at c.in-Err-TooWide.ensures.too_wide in
    let is = ((wide c.in-Err-TooWide.kind c.in-Err-TooWide.field-0-1 c.in-Err-TooWide.signed c.in-Err-TooWide.whole).0 refl).0 in
    (is.0, is.1, is.2, is.4, is.6)

pub returns-in-Ok-clause-whole : goal.returns-in-Ok-clause-whole
returns-in-Ok-clause-whole c = let read = c.in-Ok.ensures.picture in whole_read _ _ read.0 read.1 read.2 (c.picture.view_is ∙ read.4)

pub returns-in-Err-NoPicture-clause-whole : goal.returns-in-Err-NoPicture-clause-whole
returns-in-Err-NoPicture-clause-whole c =
    let none = rw c.in-Err-NoPicture.field-0-is at c.in-Err-NoPicture.ensures.no_picture in
    whole_unread _ (none.0 refl)

pub returns-in-Err-TooWide-clause-whole : goal.returns-in-Err-TooWide-clause-whole
returns-in-Err-TooWide-clause-whole c =
    let wide = rw c.in-Err-TooWide.field-0-is at c.in-Err-TooWide.ensures.too_wide in
    ((wide c.in-Err-TooWide.kind c.in-Err-TooWide.field-0-1 c.in-Err-TooWide.signed c.in-Err-TooWide.whole).0 refl).1

-- What the text after PICTURE comes to.
use Rattle.std.specs.Prelude.{Bool, true, false}
use Rattle.data_layout.specs.declared.row.Spelled.{Spelled}
use Rattle.data_layout.specs.declared.row.Spelled.TheVariants as s

-- a picture past its limits
abbrev pub is_too_wide : Spelled → Bool
is_too_wide s.Missing = false
is_too_wide s.Unreadable = false
is_too_wide s.TooWide = true
is_too_wide s.Fits = false

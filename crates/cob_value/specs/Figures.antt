-- Figurative constants, and the categories of items that the rules on them tell apart.
use Rattle.std.specs.Prelude.{ℕ, Bool, true, false}
use Rattle.picture_rule.specs.declared.kind.PictureKind.{PictureKind}
use Rattle.picture_rule.specs.declared.kind.PictureKind.TheVariants.{Alphanumeric, Group, Numeric, Edited}
use Rattle.cob_base.specs.declared.operands.Figurative.{Figurative}
use Rattle.cob_base.specs.declared.operands.Figurative.TheVariants.{Zero, Space, HighValue, LowValue}

abbrev pub is_alphanumeric : PictureKind → Bool
is_alphanumeric Alphanumeric = true
is_alphanumeric Group = false
is_alphanumeric Numeric = false
is_alphanumeric Edited = false

abbrev pub is_group : PictureKind → Bool
is_group Alphanumeric = false
is_group Group = true
is_group Numeric = false
is_group Edited = false

abbrev pub is_numeric : PictureKind → Bool
is_numeric Alphanumeric = false
is_numeric Group = false
is_numeric Numeric = true
is_numeric Edited = false

-- numeric or edited
abbrev pub is_number : PictureKind → Bool
is_number Alphanumeric = false
is_number Group = false
is_number Numeric = true
is_number Edited = true

abbrev pub is_zero : Figurative → Bool
is_zero Zero = true
is_zero Space = false
is_zero HighValue = false
is_zero LowValue = false

-- the byte that a figurative constant repeats
abbrev pub figure_byte : Figurative → ℕ
figure_byte Zero = 48
figure_byte Space = 32
figure_byte HighValue = 255
figure_byte LowValue = 0

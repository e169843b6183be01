-- What the operations of arithmetic give, in millionths.
use Rattle.std.specs.Prelude.{◌^◌, ◌+ℤ◌, ◌-ℤ◌, ◌*ℤ◌, ℤ, pos, int_div, unsigned_abs, nat_lt, Bool, Option, Some, None, if◌then◌else◌}
use Rattle.std.specs.Ordering.{int_eq}

-- fewer than 10 ^ 38 units, whatever the sign
abbrev pub is_within : ℤ → Bool
is_within units = nat_lt (unsigned_abs units) (10 ^ 38)

-- The sum; none from 10 ^ 38 millionths on.
abbrev pub sum_of : ℤ → ℤ → Option ℤ
sum_of a b = if is_within (a +ℤ b) then Some (a +ℤ b) else None

-- The difference; none from 10 ^ 38 millionths on.
abbrev pub difference_of : ℤ → ℤ → Option ℤ
difference_of a b = if is_within (a -ℤ b) then Some (a -ℤ b) else None

-- The product, cut toward zero at the millionths. It is exact in units of 10 ^ -12, and none from 10 ^ 38 of these on.
abbrev pub product_of : ℤ → ℤ → Option ℤ
product_of a b = if is_within (a *ℤ b) then Some (int_div (a *ℤ b) (pos (10 ^ 6))) else None

-- The quotient, cut toward zero at the millionths. There is none by zero, and none where the dividend has 10 ^ 38 units of
-- 10 ^ -12 or more.
abbrev pub quotient_of : ℤ → ℤ → Option ℤ
quotient_of a b =
    if int_eq b (pos 0) then None
    else (if is_within (a *ℤ pos (10 ^ 6)) then Some (int_div (a *ℤ pos (10 ^ 6)) b) else None)

-- The least fault so far.
use Rattle.std.specs.Prelude.{◌≡◌, List, [], Option, Some, None}
use Rattle.screen_layout.specs.declared.fault.ScreenFault.{ScreenFault}
use Rattle.screen_layout.specs.ScreenFaults.{IsLeast}

-- None where there is no fault
abbrev pub IsBest : List ScreenFault → Option ScreenFault → Type 0
IsBest all None = all ≡ []
IsBest all (Some fault) = IsLeast all fault

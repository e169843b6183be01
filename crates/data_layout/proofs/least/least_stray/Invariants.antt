use Rattle.std.proofs.Common.{take, map}
use Rattle.data_layout.specs.declared.fault.LayoutFault.TheVariants.{BadLevel}
use Rattle.data_layout.specs.Best.{IsBest}
use Rattle.data_layout.proofs.least.least_stray.Given as goal

abbrev pub invariant-loop-line : goal.invariant-loop-line
invariant-loop-line l = IsBest (map BadLevel (take l.line-index l.strays)) l.best

use Rattle.std.proofs.Common.{map, []}
use Rattle.data_layout.specs.declared.fault.LayoutFault.TheVariants.{BadLevel}
use Rattle.data_layout.specs.Faults.{faults_after}
use Rattle.data_layout.proofs.PlacedRows.{matched_all, empty_parts}
use Rattle.data_layout.proofs.Numbers.{numbered_all}
use Rattle.data_layout.proofs.layout.lay_out.Goals as goal

pub place-requires-clause-matched : goal.place-requires-clause-matched
place-requires-clause-matched c = rw c.as_slice-in-None.ensures.value (matched_all 0 _ _ _ c.in_ok-rows.ensures.0)

pub place-requires-clause-faultless : goal.place-requires-clause-faultless
place-requires-clause-faultless c =
    let none = rw c.in-None.is at c.in_ok-fault.ensures in
    let rows = (empty_parts (map BadLevel c.as_slice.result.now) (faults_after [] c.as_slice-2.result.now) none).1 in
    rw c.as_slice-in-None.ensures.value (rw c.as_slice-2.ensures.value at rows)

pub place-requires-clause-numbered : goal.place-requires-clause-numbered
place-requires-clause-numbered c = rw c.as_slice-in-None.ensures.value (numbered_all 0 _ _ _ c.in_ok-rows.ensures.0)

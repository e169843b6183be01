use Rattle.division_parser.proofs.fronts.fronts_are_definite.Goals as goal

pub returns : goal.returns
returns c =
    let laws = c.entries_are_definite.ensures.fronts in
    record { one_front = laws.one_reading; one_stop = laws.one_stop; never_both = laws.never_both }

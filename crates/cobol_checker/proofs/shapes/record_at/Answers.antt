use Rattle.data_names.specs.Table.{items_of}
use Rattle.cobol_checker.proofs.RecordOf.{no_description, no_record, record_here}
use Rattle.cobol_checker.proofs.shapes.record_at.Goals as goal

pub unreachable-requires : goal.unreachable-requires
unreachable-requires c =
    let items = items_of c.args.table.now in
    let known = rw c.in-Some.is at (c.in_ok-description.ensures c.args.front.now items c.requires.known) in
    no_record c.args.front.now items c.args.file.now c.in-Some.description c.requires.sound known c.in-None-record.is

pub unreachable-requires-in-None : goal.unreachable-requires-in-None
unreachable-requires-in-None c =
    let items = items_of c.args.table.now in
    let known = rw c.in-None.is at (c.in_ok-description.ensures c.args.front.now items c.requires.known) in
    no_description c.args.front.now items c.args.file.now c.requires.sound known

pub returns : goal.returns
returns c =
    let items = items_of c.args.table.now in
    let known = rw c.in-Some.is at (c.in_ok-description.ensures c.args.front.now items c.requires.known) in
    record_here c.args.front.now items c.args.file.now c.in-Some.description c.in-Some-record.at c.requires.sound known c.in-Some-record.is

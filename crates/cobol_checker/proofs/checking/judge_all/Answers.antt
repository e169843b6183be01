use Rattle.std.proofs.Common.{map}
use Rattle.data_names.specs.Table.{items_of}
use Rattle.entry_clauses.specs.SeenScreens.{seen_screen}
use Rattle.cobol_checker.proofs.KeepsRules.{front_of}
use Rattle.cobol_checker.proofs.checking.judge_all.Goals as goal

pub shapes_of-requires-clause-faultless : goal.shapes_of-requires-clause-faultless
shapes_of-requires-clause-faultless c = front_of c.args.program.now (record {
  items = items_of c.args.table.now;
  screens = map seen_screen c.args.screens.now;
  cycles = c.in_ok-fault.ensures.0;
  items_are = c.requires.items;
  screens_are = c.requires.screens.items;
  cycles_are = c.in_ok-fault.ensures.1;
  faultless = rw c.in-None.is at c.in_ok-fault.ensures.2;
})

pub returns-in_ok-shapes_of-in-None : goal.returns-in_ok-shapes_of-in-None
returns-in_ok-shapes_of-in-None c = record {
  keeps = record {
    items = items_of c.args.table.now;
    screens = map seen_screen c.args.screens.now;
    cycles = c.in_ok-fault.ensures.0;
    items_are = c.requires.items;
    screens_are = c.requires.screens.items;
    cycles_are = c.in_ok-fault.ensures.1;
    faultless = rw c.in-None.is at c.in_ok-fault.ensures.2;
  };
  shapes_are = c.in_ok-shapes_of-in-None.ensures;
}

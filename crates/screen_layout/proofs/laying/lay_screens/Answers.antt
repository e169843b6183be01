use Rattle.std.proofs.Common.{◌≡◌, ◌∙◌, ap, sym, subst, List, []}
use Rattle.cob_base.specs.declared.screen_entries.ScreenEntry.{ScreenEntry}
use Rattle.screen_rows.specs.Rows.{AreScreenRows}
use Rattle.screen_layout.specs.ScreenFaults.{screen_faults}
use Rattle.screen_layout.proofs.SoundRows.{sound_rows}
use Rattle.screen_layout.proofs.laying.lay_screens.Goals as goal

pub returns-in_ok-make_plans-in-None-clause-plans : goal.returns-in_ok-make_plans-in-None-clause-plans
returns-in_ok-make_plans-in-None-clause-plans c =
    let rows = c.in_ok-read.read.rows.items in
    let contents = c.in_ok-read.read.contents.items in
    let none = rw c.in-None.is at c.in_ok-fault.ensures in
    let faultless : screen_faults rows ≡ [] = ap screen_faults (sym c.as_slice.ensures.value) ∙ none in
    record {
      rows = rows;
      contents = contents;
      read = subst (λ (entries : List ScreenEntry). AreScreenRows c.args.layout.now entries rows contents) c.entries_of.ensures c.in_ok-read.ensures;
      faultless = faultless;
      planned = (c.in_ok-make_plans-in-None.ensures c.args.layout.now (sound_rows c.args.layout.now _ rows contents c.requires.laid_out.inside c.in_ok-read.ensures) faultless).0;
    }

pub returns-in_ok-make_plans-in-None-clause-of_layout : goal.returns-in_ok-make_plans-in-None-clause-of_layout
returns-in_ok-make_plans-in-None-clause-of_layout c =
    let rows = c.in_ok-read.read.rows.items in
    let contents = c.in_ok-read.read.contents.items in
    let none = rw c.in-None.is at c.in_ok-fault.ensures in
    let faultless : screen_faults rows ≡ [] = ap screen_faults (sym c.as_slice.ensures.value) ∙ none in
    (c.in_ok-make_plans-in-None.ensures c.args.layout.now (sound_rows c.args.layout.now _ rows contents c.requires.laid_out.inside c.in_ok-read.ensures) faultless).1

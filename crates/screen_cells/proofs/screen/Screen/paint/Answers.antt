use Rattle.std.proofs.Common.{arith, ap, sym, ◌∙◌, ℕ}
use Rattle.std.specs.Prelude.{slice_index}
use Rattle.std.proofs.lemmas.Grind.{common_steps}
use Rattle.screen_cells.specs.Cells.{painted_cell}
use Rattle.screen_cells.proofs.CellLemmas.{one_more_byte, past_the_first, on_the_screen}
use Rattle.screen_cells.proofs.screen.Screen.paint.Goals as goal

pub loop-at-preserved : goal.loop-at-preserved
loop-at-preserved c =
    let within = on_the_screen c.args.line c.args.column c.loop-at.at _ _ c.requires.line.0 c.requires.line.1 c.requires.column c.requires.fits c.loop-at-test.true c.loop-at.invariant.whole in
    record {
      whole = grind (arith, common_steps);
      line = c.loop-at.invariant.line;
      column = c.loop-at.invariant.column;
      each = one_more_byte _ _ _ _ _ _ within (c.painted.ensures ∙ ap (λ (k : ℕ). painted_cell c.args.style (slice_index c.args.bytes.now k)) (sym (past_the_first _ _))) c.loop-at.invariant.each;
    }

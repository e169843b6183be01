use Rattle.std.proofs.Common.{refl, ◌∙◌, arith, ◌+◌, length}
use Rattle.std.proofs.lemmas.Slice.{between_to_end}
use Rattle.data_layout.proofs.Gatherings.{goes_first, added_one, entry_at}
use Rattle.data_layout.proofs.reading.Gathered.add_section.Goals as goal

pub loop-at-init : goal.loop-at-init
loop-at-init c = (goes_first c.args.in_file c.args.entries.now c.args.self.now.rows.items c.args.self.now.texts.items, refl)

pub loop-at-preserved : goal.loop-at-preserved
loop-at-preserved c =
    let more = c.in_ok-starts.ensures c.args.entries.now c.loop-at.at c.args.self.now.rows.items c.args.self.now.texts.items
    (entry_at c.args.entries.now c.loop-at.at c.index-entries-at.result c.loop-at-test.true c.index-entries-at.is)
    (between_to_end c.args.entries.now (c.loop-at.at + 1) (length c.args.entries.now) (omega arith)) c.loop-at.invariant.0 in
    (more.0, more.1 ∙ c.loop-at.invariant.1)

pub returns : goal.returns
returns c = added_one c.args.in_file c.loop-at.starts c.args.entries.now c.loop-at.at c.args.self.now c.loop-at.self c.loop-at-test.false c.loop-at.invariant.0
    (c.loop-at.invariant.1 ∙ c.in_ok-push_strays.ensures)

use Rattle.std.proofs.Common.{map}
use Rattle.cob_base.specs.declared.screen_entries.ScreenEntry.{ScreenEntry}
use Rattle.name_rules.specs.Mentions.{mention, references_of_screen}
use Rattle.name_rules.proofs.MentionsOf.{adds_step, adds_all}
use Rattle.name_rules.proofs.mentions.add_screens.Goals as goal

pub loop-entry-preserved : goal.loop-entry-preserved
loop-entry-preserved c =
    adds_step _ (λ (entry : ScreenEntry). map (mention entry.line) (references_of_screen entry)) c.args.entries.now c.loop-entry.entry-index c.entry-item.result c.args.mentions.now.items c.loop-entry.mentions.items _ c.loop-entry-test.true c.entry-item.is c.loop-entry.invariant c.in_ok-add_screen.ensures

pub returns : goal.returns
returns c = adds_all _ (λ (entry : ScreenEntry). map (mention entry.line) (references_of_screen entry)) c.args.entries.now c.loop-entry.entry-index c.args.mentions.now.items c.loop-entry.mentions.items c.loop-entry-test.false c.loop-entry.invariant

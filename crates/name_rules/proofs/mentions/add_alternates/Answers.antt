use Rattle.std.proofs.Common.{subst}
use Rattle.data_names.specs.Table.{items_of}
use Rattle.name_rules.specs.SeenMentions.{AddsMentions}
use Rattle.name_rules.proofs.MentionsOf.{of_alternate, alternates_listed, adds_step, adds_all}
use Rattle.std.proofs.Common.{ap, map}
use Rattle.std.specs.Prelude.{option_to_list}
use Rattle.name_rules.specs.Mentions.{mention}
use Rattle.name_rules.proofs.mentions.add_alternates.Goals as goal

pub loop-clause-preserved : goal.loop-clause-preserved
loop-clause-preserved c =
    adds_step _ (of_alternate c.args.line) c.args.clauses.now c.loop-clause.clause-index c.clause-item.result c.args.mentions.now.items c.loop-clause.mentions.items _ c.loop-clause-test.true c.clause-item.is c.loop-clause.invariant
    (subst (λ more. AddsMentions (items_of c.args.table.now) more c.loop-clause.mentions.items c.add_optional.new.mentions.items) (ap (λ key. map (mention c.args.line) (option_to_list key)) c.alternate_key.ensures) c.in_ok-add_optional.ensures)

pub returns : goal.returns
returns c =
    subst (λ more. AddsMentions (items_of c.args.table.now) more c.args.mentions.now.items c.loop-clause.mentions.items) (alternates_listed c.args.line c.args.clauses.now)
    (adds_all _ (of_alternate c.args.line) c.args.clauses.now c.loop-clause.clause-index c.args.mentions.now.items c.loop-clause.mentions.items c.loop-clause-test.false c.loop-clause.invariant)

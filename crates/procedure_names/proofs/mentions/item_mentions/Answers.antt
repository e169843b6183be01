use Rattle.std.proofs.Common.{subst, List, [], map}
use Rattle.std.specs.List.{flat_map}
use Rattle.std.proofs.lemmas.List.{take_all}
use Rattle.cob_base.specs.declared.statements.Located.{Located}
use Rattle.cob_base.specs.declared.statements.Statement.{Statement}
use Rattle.data_names.specs.Table.{items_of}
use Rattle.name_rules.specs.Mentions.{mention}
use Rattle.name_rules.specs.SeenMentions.{AddsMentions}
use Rattle.statement_parts.specs.References as r
use Rattle.statement_parts.specs.Seen.{seen_all}
use Rattle.procedure_names.proofs.MentionsOf.{adds_step, found_all}
use Rattle.procedure_names.proofs.Lent.{lent_within, lent_at, lent_past}
use Rattle.procedure_names.proofs.mentions.item_mentions.Goals as goal

pub loop-one-preserved : goal.loop-one-preserved
loop-one-preserved c =
    let xs = c.args.statements.now in
    let at = c.loop-one.one-index in
    adds_step (items_of c.args.table.now) (λ (one : Located Statement). map (mention one.line) (r.items_of one.item)) (seen_all xs) at c.one-item.result.now [] c.loop-one.mentions.items c.add_items.new.mentions.items
    (lent_within xs at c.loop-one-test.true) (lent_at xs at c.one-item.result c.loop-one-test.true c.one-item.is) c.loop-one.invariant c.in_ok-add_items.ensures

pub returns : goal.returns
returns c =
    let xs = c.args.statements.now in
    let f = λ (one : Located Statement). map (mention one.line) (r.items_of one.item) in
    found_all (items_of c.args.table.now) c.loop-one.mentions.items _
    (subst (λ (some : List (Located Statement)). AddsMentions (items_of c.args.table.now) (flat_map f some) [] c.loop-one.mentions.items) (take_all c.loop-one.one-index (seen_all xs) (lent_past xs c.loop-one.one-index c.loop-one-test.false)) c.loop-one.invariant)

use Rattle.std.proofs.Common.{◌∙◌, sym, ap, arith, ◌<◌, ◌≤◌, List, [], map, length}
use Rattle.std.proofs.lemmas.List.{get_or-map, length-map}
use Rattle.data_names.specs.Table.{items_of}
use Rattle.name_rules.specs.Mentions.{mention, item_of_subscript}
use Rattle.name_rules.specs.Mentions as m
use Rattle.name_rules.specs.SeenMentions.{seen_mention}
use Rattle.name_rules.proofs.MentionsOf.{adds_step, adds_all, found_all}
use Rattle.name_rules.proofs.mentions.subscript_items.Goals as goal

pub loop-one-preserved : goal.loop-one-preserved
loop-one-preserved c =
    let refs = c.args.references.now in
    let xs : List m.Mention = map seen_mention refs in
    let x = c.one-item.result in
    let within : c.loop-one.one-index < length xs = omega (arith, c.loop-one-test.true, length-map refs seen_mention) in
    adds_step (items_of c.args.table.now) (λ (one : m.Mention). map (mention one.line) (item_of_subscript one.reference.subscript)) xs c.loop-one.one-index (seen_mention x) [] c.loop-one.subscripts.items
    c.add_subscript.new.mentions.items within (ap seen_mention c.one-item.is ∙ sym (get_or-map seen_mention refs c.loop-one.one-index x (seen_mention x) c.loop-one-test.true))
    c.loop-one.invariant c.in_ok-add_subscript.ensures

pub returns : goal.returns
returns c =
    let xs : List m.Mention = map seen_mention c.args.references.now in
    let whole : length xs ≤ c.loop-one.one-index = omega (arith, c.loop-one-test.false, length-map c.args.references.now seen_mention) in
    found_all (items_of c.args.table.now) c.loop-one.subscripts.items _
    (adds_all (items_of c.args.table.now) (λ (one : m.Mention). map (mention one.line) (item_of_subscript one.reference.subscript)) xs c.loop-one.one-index [] c.loop-one.subscripts.items whole c.loop-one.invariant)

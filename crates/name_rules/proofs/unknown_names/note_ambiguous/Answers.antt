use Rattle.std.proofs.Common.{◌∙◌, sym, ap, subst, arith, ◌<◌, ◌≤◌, ◌++◌, List, map, length}
use Rattle.std.specs.Prelude.{filter, nat_lt}
use Rattle.std.proofs.lemmas.List.{get_or-map, length-map}
use Rattle.std.proofs.lemmas.List.Elements.{All-get_or}
use Rattle.data_names.specs.Items.{DataItem}
use Rattle.data_names.specs.References.{count_of_matches}
use Rattle.name_rules.specs.Mentions as m
use Rattle.name_rules.specs.Faults.{faults_at}
use Rattle.name_rules.specs.SeenMentions.{IsFoundMention, seen_mention}
use Rattle.name_rules.proofs.Noted.{noted_more, noted_all}
use Rattle.name_rules.proofs.unknown_names.note_ambiguous.Goals as goal

pub loop-mention-preserved : goal.loop-mention-preserved
loop-mention-preserved c = λ (items : List DataItem) h.
    let some = c.args.mentions.now in
    let at = c.loop-mention.mention-index in
    let x = c.mention-item.result in
    let within : at < length (map seen_mention some) = omega (arith, c.loop-mention-test.true, length-map some seen_mention) in
    let found = subst (IsFoundMention items) (sym c.mention-item.is) (All-get_or (IsFoundMention items) some at x c.loop-mention-test.true h) in
    noted_more 2 (λ (one : m.Mention). one.line) (λ (one : m.Mention). nat_lt 1 (count_of_matches items one.reference)) (map seen_mention some) at (seen_mention x) _ _ _ _ within
    (ap seen_mention c.mention-item.is ∙ sym (get_or-map seen_mention some at x (seen_mention x) c.loop-mention-test.true))
    (c.is_several.ensures items x.name.now x.qualifiers.now found) (c.loop-mention.invariant items h) c.in_ok-note.ensures

pub returns : goal.returns
returns c = λ (items : List DataItem) all h.
    let some = c.args.mentions.now in
    let past : length (map seen_mention some) ≤ c.loop-mention.mention-index = omega (arith, c.loop-mention-test.false, length-map some seen_mention) in
    noted_all 2 (λ (one : m.Mention). one.line) (λ (one : m.Mention). nat_lt 1 (count_of_matches items one.reference)) (map seen_mention some) c.loop-mention.mention-index _ _ past (c.loop-mention.invariant items h.found)
    ∙ ap (λ (lists : List m.Mention). c.args.faults.now.found.items ++ faults_at 2 (map (λ (one : m.Mention). one.line) (filter (λ (one : m.Mention). nat_lt 1 (count_of_matches items one.reference)) lists))) h.seen

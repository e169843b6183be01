use Rattle.std.proofs.Common.{◌∙◌, ap, ◌++◌, List, map}
use Rattle.std.specs.Prelude.{filter, is_some}
use Rattle.data_names.specs.References.{found}
use Rattle.data_names.specs.Table.{items_of}
use Rattle.name_rules.specs.declared.mentions.Mention.{Mention}
use Rattle.name_rules.specs.Mentions.{references, subscript_items}
use Rattle.name_rules.specs.Mentions as m
use Rattle.name_rules.specs.SeenMentions.{seen_mention}
use Rattle.name_rules.specs.Subscripts.{is_miscounted}
use Rattle.name_rules.specs.Faults.{faults_at}
use Rattle.name_rules.proofs.Noted.{noted_parts}
use Rattle.name_rules.proofs.subscripts.note_miscounted.Goals as goal

pub returns : goal.returns
returns c = λ front h.
    let items = items_of c.args.table.now in
    let test = λ (one : m.Mention). is_miscounted (is_some one.reference.subscript) (found items one.reference) in
    let old = c.args.faults.now.found.items in
    let one =
    c.in_ok-note_miscounted_in.ensures
    ∙ ap (λ (some : List Mention). old ++ faults_at 13 (map (λ (one : m.Mention). one.line) (filter test (map seen_mention some)))) c.as_slice.ensures.value
    ∙ ap (λ (some : List m.Mention). old ++ faults_at 13 (map (λ (one : m.Mention). one.line) (filter test some))) h.references_are.seen in
    let mid = c.note_miscounted_in.new.faults.found.items in
    let two =
    c.in_ok-note_miscounted_in-2.ensures
    ∙ ap (λ (some : List Mention). mid ++ faults_at 13 (map (λ (one : m.Mention). one.line) (filter test (map seen_mention some)))) c.as_slice-2.ensures.value
    ∙ ap (λ (some : List m.Mention). mid ++ faults_at 13 (map (λ (one : m.Mention). one.line) (filter test some))) h.subscripts_are.seen in
    noted_parts 13 (λ (one : m.Mention). one.line) test (references front) (subscript_items front) old mid _ one two

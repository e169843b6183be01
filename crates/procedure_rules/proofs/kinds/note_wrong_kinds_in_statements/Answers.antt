use Rattle.std.proofs.Common.{◌∙◌, ap, List, ◌++◌, map}
use Rattle.std.specs.Prelude.{filter}
use Rattle.data_names.specs.References.{found}
use Rattle.name_rules.specs.declared.mentions.Mention.{Mention}
use Rattle.name_rules.specs.Mentions as m
use Rattle.name_rules.specs.SeenMentions.{seen_mention}
use Rattle.name_rules.specs.Faults.{faults_at}
use Rattle.front_rules.specs.Kinds.{is_no_integer}
use Rattle.procedure_names.specs.Scoped.{items_in}
use Rattle.procedure_names.proofs.Noted.{noted_twice}
use Rattle.procedure_rules.proofs.kinds.note_wrong_kinds_in_statements.Goals as goal

pub returns : goal.returns
returns c =
    let items = items_in c.args.known.now.scope.now in
    let mid = c.note_statements.new.faults.found.items in
    let test = λ (one : m.Mention). is_no_integer (found items one.reference) in
    noted_twice 6 _ _ _ mid _ c.in_ok-note_statements.ensures
    (c.in_ok-note_subscripts.ensures ∙ ap (λ (some : List Mention). mid ++ faults_at 6 (map (λ (one : m.Mention). one.line) (filter test (map seen_mention some)))) c.as_slice.ensures.value)

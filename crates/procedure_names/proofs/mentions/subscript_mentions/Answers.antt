use Rattle.std.proofs.Common.{◌∙◌, subst, ap, map, List}
use Rattle.data_names.specs.Table.{items_of}
use Rattle.name_rules.specs.Mentions as m
use Rattle.name_rules.specs.SeenMentions.{AreFoundAs, seen_mention}
use Rattle.procedure_names.specs.Mentions.{subscripts_of}
use Rattle.procedure_names.proofs.mentions.subscript_mentions.Goals as goal

pub returns : goal.returns
returns c =
    subst (λ (refs : List m.Mention). AreFoundAs (items_of c.args.table.now) (subscripts_of refs) c.in_ok-subscripts.subscripts.items) (ap (map seen_mention) c.as_slice.ensures.value ∙ c.in_ok-all.ensures) c.in_ok-subscripts.ensures

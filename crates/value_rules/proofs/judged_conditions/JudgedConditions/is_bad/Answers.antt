use Rattle.std.proofs.Common.{refl, length, Some}
use Rattle.std.proofs.lemmas.Option.{slice_get_read}
use Rattle.procedure_names.specs.Conditions.{NamedCondition, conditions}
use Rattle.value_rules.specs.Kinds.{is_bad_condition}
use Rattle.procedure_names.specs.Scoped.{front_in, items_in}
use Rattle.value_rules.proofs.Marks.{mark_is}
use Rattle.value_rules.proofs.judged_conditions.JudgedConditions.is_bad.Goals as goal

pub returns : goal.returns
returns c = λ scope one judged e.
    let marks = c.args.self.now.bad.items in
    mark_is (λ (some : NamedCondition). is_bad_condition (Some some)) (conditions (front_in scope) (items_in scope)) marks c.args.at one c.index.result.now judged e
    (slice_get_read marks (length marks) c.args.at c.index.result.now refl c.requires c.index.ensures)

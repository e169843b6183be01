use Rattle.std.proofs.Common.{◌≡◌, ◌∙◌, refl, ap, not, ◌&&◌, ◌||◌, Bool, List, [], ◌∷◌}
use Rattle.std.specs.Prelude.{option_map}
use Rattle.std.proofs.lemmas.Option.{slice_get_within}
use Rattle.data_names.specs.Spots.{is_table}
use Rattle.data_names.specs.References.{only_one}
use Rattle.name_rules.specs.Subscripts.{is_miscounted}
use Rattle.procedure_names.specs.Conditions.{NamedCondition, conditions}
use Rattle.procedure_names.specs.Scoped.{front_in, items_in}
use Rattle.procedure_names.proofs.unknown_names.is_miscounted.Goals as goal

miscounted_one : (subscripted table : Bool) (matching : List NamedCondition) (named : NamedCondition) → matching ≡ named ∷ [] → table ≡ is_table named.spot
    → ((subscripted && not table) || (not subscripted && table)) ≡ is_miscounted subscripted (option_map (λ one. one.spot) (only_one matching))
miscounted_one subscripted table matching named e t = rw (e, t) refl

pub is_in_table-requires-clause-within : goal.is_in_table-requires-clause-within
is_in_table-requires-clause-within c =
    let is = rw c.in-One.is at c.requires.found in
    slice_get_within (conditions (front_in c.args.scope.now) (items_in c.args.scope.now)) c.in-One.at is.0 is.1

pub returns-in-One : goal.returns-in-One
returns-in-One c =
    let is = rw c.in-One.is at c.requires.found in
    c.is_unlike.ensures ∙ ap (λ b. (b && not c.is_in_table.result) || (not b && c.is_in_table.result)) c.is_some.ensures
    ∙ miscounted_one _ c.is_in_table.result _ is.0 is.2 (c.is_in_table.ensures is.0 is.1)

use Rattle.std.proofs.Common.{◌≡◌, ◌∙◌, refl, sym, ap, ℕ, List, [], ◌∷◌, length, map, arith, ◌==◌}
use Rattle.std.proofs.lemmas.Bool.Decides.{nat_tests}
use Rattle.std.proofs.lemmas.List.{drop_all}
use Rattle.data_names.specs.Seen.{seen_name}
use Rattle.data_names.specs.References.{is_qualified}
use Rattle.procedure_names.proofs.conditions.are_names.Goals as goal

no_groups : (qualifiers : List (List ℕ)) → (length qualifiers == 0) ≡ is_qualified qualifiers []
no_groups [] = refl
no_groups (qualifier ∷ others) = grind (arith, nat_tests)

pub returns : goal.returns
returns c =
    c.is_empty.ensures ∙ no_groups c.loop-group.left.now
    ∙ ap (λ groups. is_qualified c.loop-group.left.now (map seen_name groups)) (sym (drop_all c.loop-group.group-index c.args.groups.now c.loop-group-test.false)) ∙ c.loop-group.invariant

-- The items so far.
use Rattle.std.proofs.Common.{◌≡◌, ◌++◌, take}
use Rattle.std.specs.List.{flat_map}
use Rattle.statement_parts.specs.Leaves.{items_of_expr}
use Rattle.statement_parts.specs.Seen.{seen_all}
use Rattle.statement_parts.proofs.leaves.+expressions.Given as goal

abbrev pub invariant-add_factors-loop-factor : goal.invariant-add_factors-loop-factor
invariant-add_factors-loop-factor l = seen_all l.all.items ≡ seen_all l.initial.all.items ++ flat_map (λ factor. items_of_expr factor.1) (take l.factor-index l.factors)

abbrev pub invariant-add_terms-loop-term : goal.invariant-add_terms-loop-term
invariant-add_terms-loop-term l = seen_all l.all.items ≡ seen_all l.initial.all.items ++ flat_map (λ term. items_of_expr term.1) (take l.term-index l.terms)

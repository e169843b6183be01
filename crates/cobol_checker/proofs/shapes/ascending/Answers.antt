use Rattle.cobol_checker.proofs.Ascending.{ascending_of}
use Rattle.std.proofs.lemmas.List.Sorted.{IsNonDecreasingBy-from_sort_by_key}
use Rattle.std.proofs.Common.{rules}
use Rattle.cobol_checker.specs.Sound.{rank}
use Rattle.cobol_checker.proofs.shapes.ascending.Goals as goal

pub returns-clause-ascending : goal.returns-clause-ascending
returns-clause-ascending c = ascending_of c.args.places.items c.sort_by_key.new.self.items c.requires.apart c.in_ok-sort_by_key.ensures.permutation (IsNonDecreasingBy-from_sort_by_key rank c.sort_by_key.new.self.items c.in_ok-sort_by_key.ensures.sorted (λ a r q k. search rules))

-- The keys with the qualifiers so far.
use Rattle.std.proofs.Common.{take}
use Rattle.std.specs.List.{list_any}
use Rattle.std.specs.Str.{bytes_eq}
use Rattle.data_names.specs.Asked.{AreAskedWith}
use Rattle.data_names.specs.Names.{pair_key}
use Rattle.data_names.proofs.asked.AskedPairs.ask_pairs.Given as goal

abbrev pub invariant-loop-qualifier : goal.invariant-loop-qualifier
invariant-loop-qualifier l = AreAskedWith l.fn.self l.self (λ key. list_any (λ qualifier. bytes_eq key (pair_key l.name qualifier)) (take l.qualifier-index l.qualifiers))

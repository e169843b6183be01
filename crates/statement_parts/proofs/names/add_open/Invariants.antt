-- The names so far.
use Rattle.std.proofs.Common.{◌≡◌, ◌++◌, take, map}
use Rattle.std.specs.List.{flat_map}
use Rattle.statement_parts.specs.declared.names.NameKind.TheVariants as kinds
use Rattle.statement_parts.specs.References.{wanted, files_of_phrase}
use Rattle.statement_parts.specs.Seen.{seen_wanted}
use Rattle.statement_parts.proofs.names.add_open.Given as goal

abbrev pub invariant-loop-phrase : goal.invariant-loop-phrase
invariant-loop-phrase l = map seen_wanted l.all.items ≡ map seen_wanted l.initial.all.items ++ map (wanted kinds.File) (flat_map files_of_phrase (take l.phrase-index l.phrases))

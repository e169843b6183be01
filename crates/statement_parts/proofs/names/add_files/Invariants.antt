-- The names so far.
use Rattle.std.proofs.Common.{◌≡◌, ◌++◌, take, map}
use Rattle.statement_parts.specs.declared.names.NameKind.TheVariants as kinds
use Rattle.statement_parts.specs.References.{wanted}
use Rattle.statement_parts.specs.Seen.{seen_wanted}
use Rattle.statement_parts.proofs.names.add_files.Given as goal

abbrev pub invariant-loop-name : goal.invariant-loop-name
invariant-loop-name l = map seen_wanted l.all.items ≡ map seen_wanted l.initial.all.items ++ map (wanted kinds.File) (take l.name-index l.names)

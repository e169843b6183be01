use Rattle.std.proofs.Common.{◌+◌, sym, subst, List, take}
use Rattle.procedure_rules.specs.KnownFiles.{AreKnownFiles}
use Rattle.procedure_rules.specs.declared.known_files.KnownFile.{KnownFile}
use Rattle.procedure_names.specs.Scoped.{items_in}
use Rattle.procedure_rules.proofs.FilesKnown.{files_more}
use Rattle.procedure_rules.proofs.known_files.known_files.Goals as goal

pub loop-entry-preserved : goal.loop-entry-preserved
loop-entry-preserved c =
    let items = items_in c.args.scope.now in
    let entries = c.args.entries.now in
    subst (λ (some : List KnownFile). AreKnownFiles items (take (c.loop-entry.entry-index + 1) entries) some) (sym c.in_ok-push.ensures.items)
    (files_more items entries c.loop-entry.entry-index c.entry-item.result c.loop-entry.known.items c.in_ok-of.field-0 c.loop-entry-test.true c.entry-item.is c.loop-entry.invariant c.in_ok-of.ensures.entry c.in_ok-of.ensures.known)

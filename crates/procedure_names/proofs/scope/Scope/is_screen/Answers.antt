use Rattle.std.proofs.Common.{◌∙◌, map}
use Rattle.data_names.specs.Parts.{screen_entries}
use Rattle.procedure_names.specs.Scoped.{name_of_screen, front_in}
use Rattle.procedure_names.proofs.ScopeOf.{screen_is}
use Rattle.procedure_names.proofs.scope.Scope.is_screen.Goals as goal

pub returns : goal.returns
returns c =
    let entries = screen_entries (front_in c.args.self.now) in
    c.is_some.ensures ∙ screen_is entries c.args.name.now c.in_ok-number.number (c.in_ok-number.ensures (map name_of_screen entries) c.requires.screens)

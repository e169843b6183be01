use Rattle.std.proofs.Common.{◌≡◌, ◌∙◌, sym, ap, subst, List, Option}
use Rattle.std.specs.Option.{option_copied, IfSome}
use Rattle.data_names.specs.Parts.{files}
use Rattle.procedure_names.specs.Firsts.{at_number}
use Rattle.procedure_rules.specs.KnownFiles.{IsKnownFile, seen_file}
use Rattle.procedure_names.specs.Scoped.{front_in, items_in}
use Rattle.procedure_rules.specs.declared.known_files.KnownFile.{KnownFile}
use Rattle.procedure_rules.proofs.FilesKnown.{file_at_number, all_at_number}
use Rattle.procedure_rules.proofs.known_program.KnownProgram.file_at.Goals as goal

pub returns : goal.returns
returns c =
    let items = items_in c.args.self.now.scope.now in
    let known = c.args.self.now.files.items in
    let number = c.args.number in
    let there : option_copied c.file_in.result ≡ at_number known number = c.file_in.ensures ∙ ap (λ (some : List KnownFile). at_number some number) c.as_slice.ensures.value in
    record {
      entry = ap seen_file there ∙ file_at_number items (files (front_in c.args.self.now.scope.now)) known number c.requires.files;
      known = subst (λ (o : Option KnownFile). IfSome o (IsKnownFile items)) (sym there) (all_at_number (IsKnownFile items) known number c.requires.files.each);
    }

use Rattle.std.proofs.Common.{◌∙◌, ◌||◌, ap}
use Rattle.std.specs.List.{list_any}
use Rattle.std.specs.Str.{bytes_eq}
use Rattle.data_names.specs.Names.{in_small}
use Rattle.data_names.specs.References.{same_name}
use Rattle.name_rules.specs.NameKeys.{has_key}
use Rattle.procedure_names.proofs.Taken.{keys_push}
use Rattle.procedure_names.proofs.double_paragraphs.take_name.Goals as goal

pub returns : goal.returns
returns c = λ others h. (
  c.in_ok-is_taken.ensures others h ∙ ap (λ name. list_any (λ other. same_name name other) others) c.as_bytes.ensures,
  keys_push others c.args.name.now c.args.names.now c.add.new.self h
      (λ key. c.in_ok-add.ensures key ∙ ap (λ name. has_key c.args.names.now key || bytes_eq key (in_small name)) c.as_bytes-2.ensures),
)

use Rattle.std.proofs.Common.{◌∙◌, ◌||◌, ap}
use Rattle.std.specs.Str.{bytes_eq}
use Rattle.data_names.specs.Names.{in_small}
use Rattle.name_rules.specs.NameKeys.{has_key}
use Rattle.procedure_names.proofs.Taken.{keys_more}
use Rattle.procedure_names.proofs.double_paragraphs.names_of.Goals as goal

pub loop-one-preserved : goal.loop-one-preserved
loop-one-preserved c =
    keys_more (λ one. one.name.now) c.args.all.now c.loop-one.one-index c.one-item.result c.loop-one.names c.add.new.self c.loop-one-test.true c.one-item.is c.loop-one.invariant
    (λ key. c.in_ok-add.ensures key ∙ ap (λ name. has_key c.loop-one.names key || bytes_eq key (in_small name)) c.as_bytes.ensures)

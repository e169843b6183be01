use Rattle.std.proofs.Common.{◌∙◌, ap, ◌||◌, ℕ, List, map}
use Rattle.std.specs.List.{list_any}
use Rattle.std.specs.Str.{bytes_eq}
use Rattle.std.proofs.lemmas.List.{take_all}
use Rattle.cob_base.specs.declared.divisions.FileDescription.{FileDescription}
use Rattle.data_names.specs.Names.{in_small}
use Rattle.name_rules.specs.NameKeys.{has_key}
use Rattle.name_rules.proofs.KeysOf.{any_more}
use Rattle.name_rules.proofs.unknown_names.names_of_descriptions.Goals as goal

pub loop-description-preserved : goal.loop-description-preserved
loop-description-preserved c = λ (key : List ℕ).
    any_more (λ (description : FileDescription). description.name) (λ (name : List ℕ). bytes_eq key (in_small name)) c.args.descriptions.now c.loop-description.description-index c.description-item.result _ _ c.loop-description-test.true c.description-item.is (c.loop-description.invariant key)
    (c.in_ok-add.ensures key ∙ ap (λ (bs : List ℕ). has_key c.loop-description.names key || bytes_eq key (in_small bs)) c.as_bytes.ensures)

pub returns : goal.returns
returns c = λ (key : List ℕ).
    c.loop-description.invariant key ∙ ap (λ (some : List FileDescription). list_any (λ (name : List ℕ). bytes_eq key (in_small name)) (map (λ (description : FileDescription). description.name) some)) (take_all c.loop-description.description-index c.args.descriptions.now c.loop-description-test.false)

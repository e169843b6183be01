use Rattle.std.proofs.Common.{◌∙◌, ap, ◌||◌, ℕ, List, Vec, Global}
use Rattle.std.specs.Str.{bytes_eq}
use Rattle.name_rules.specs.NameKeys.{has_key}
use Rattle.name_rules.proofs.KeysOf.{key_added}
use Rattle.name_rules.proofs.unknown_names.NameSet.add.Goals as goal

pub returns : goal.returns
returns c = λ (key : List ℕ).
    key_added (λ (one : Vec ℕ Global). one.items) c.in_ok-key.key.items c.args.self.now.names c.insert.new.self c.in_ok-insert.ensures.updates key
    ∙ ap (λ (bs : List ℕ). has_key c.args.self.now key || bytes_eq key bs) c.in_ok-key.ensures

use Rattle.std.proofs.Common.{◌∙◌, ap, ◌==◌, ◌||◌, ◌&&◌, ℕ, List, Vec, Global}
use Rattle.std.specs.Str.{bytes_eq}
use Rattle.name_rules.specs.SeenMembers.{has_member}
use Rattle.name_rules.proofs.PairsOf.{pair_added}
use Rattle.name_rules.proofs.members.Members.add.Goals as goal

pub returns-clause-added : goal.returns-clause-added
returns-clause-added c = λ (number : ℕ) (key : List ℕ).
    pair_added (λ (one : Vec ℕ Global). one.items) c.args.group c.in_ok-key.key.items c.args.self.now.seen c.insert.new.self c.in_ok-is_new.ensures.updates number key
    ∙ ap (λ (bs : List ℕ). has_member c.args.self.now number key || ((number == c.args.group) && bytes_eq bs key)) c.in_ok-key.ensures

use Rattle.std.proofs.Common.{◌∙◌, ap, ℕ, List, Vec, Global}
use Rattle.std.specs.Ordering.{nat_cmp}
use Rattle.std.specs.Cmp.Lexicographic.{slice_cmp}
use Rattle.std.specs.BTreeSet.{contains_by}
use Rattle.data_names.specs.Names.{in_small}
use Rattle.name_rules.proofs.unknown_names.NameSet.has.Goals as goal

pub returns : goal.returns
returns c = λ others h.
    c.contains.ensures
    ∙ ap (λ (key : List ℕ). contains_by (λ (other : Vec ℕ Global). slice_cmp nat_cmp key other.items) c.args.self.now.names) (c.as_slice.ensures.value ∙ c.in_ok-key.ensures)
    ∙ h (in_small c.args.name.now)

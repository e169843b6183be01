use Rattle.std.proofs.Common.{◌≡◌, ◌∙◌, refl, sym, ap, ℕ, ◌+◌, List, [], ◌∷◌, Option, None}
use Rattle.std.specs.Prelude.{position}
use Rattle.std.specs.List.{position_from}
use Rattle.std.proofs.lemmas.Iterator.Adapters.{position_from-zero}
use Rattle.data_names.specs.Items.{DataItem}
use Rattle.key_rules.specs.KeyPlaces.{is_unsized_under}
use Rattle.key_rules.proofs.key_places.unsized_under.Goals as goal

none_under : (items : List DataItem) (n : ℕ) → position_from (is_unsized_under None) n items ≡ None
none_under [] n = refl
none_under (item ∷ items) n = none_under items (n + 1)

pub returns-in-None : goal.returns-in-None
returns-in-None c = λ front items name h.
    let none = rw c.in-None.is at h in
    sym (ap (λ (one : Option ℕ). position (is_unsized_under one) items) none ∙ position_from-zero (is_unsized_under None) items ∙ none_under items 0)

use Rattle.std.proofs.Common.{◌≡◌, ◌∙◌, refl, sym, ap, Bool, true, false, ◌||◌}
use Rattle.data_names.specs.Items.{DataItem}
use Rattle.entry_clauses.specs.Clauses.{has_leading_sign}
use Rattle.front_rules.specs.Kinds.{has_bad_value}
use Rattle.front_rules.specs.Levels.{has_bad_level}
use Rattle.front_rules.proofs.kinds.is_item_of_wrong_kind.Goals as goal

late : (level value twice sign : Bool) → (twice || sign) ≡ true → true ≡ (level || value || twice || sign)
late true value twice sign e = refl
late false true twice sign e = refl
late false false twice sign e = sym e

pub returns-then-is_badly_written : goal.returns-then-is_badly_written
returns-then-is_badly_written c = λ spot e f.
    late (has_bad_level spot) (has_bad_value spot) spot.item.row.twice (has_leading_sign spot.item.source.entry.clauses) (ap (λ (item : DataItem). item.row.twice || has_leading_sign item.source.entry.clauses) e ∙ sym c.is_badly_written.ensures ∙ c.if-is_badly_written.true)

use Rattle.std.proofs.Common.{◌∙◌, refl, ap, sym, not, Some, None, ℕ}
use Rattle.std.specs.Prelude.{if◌then◌else◌}
use Rattle.data_layout.specs.Faults.{has_size}
use Rattle.data_names.specs.Clauses.{or_next}
use Rattle.data_names.specs.Seen.{seen_item}
use Rattle.data_names.specs.Spots.{is_record}
use Rattle.key_rules.proofs.DescriptionsOf.{under}
use Rattle.key_rules.proofs.descriptions.with_item.Goals as goal

pub returns : goal.returns
returns c = λ before number e f h.
    let item = seen_item c.args.item.now in
    under before item number c.args.known _ f h refl
    (c.first_of.ensures ∙ ap (or_next c.args.known.record) (c.record_at.ensures ∙ ap (λ (at : ℕ). if is_record item then Some at else None) (sym e))) (c.first_of-2.ensures ∙ ap (or_next c.args.known.unsized_at) (c.unsized_at.ensures ∙ ap (λ (at : ℕ). if not (has_size item.row) then Some at else None) (sym e)))

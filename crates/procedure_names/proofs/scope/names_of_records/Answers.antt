use Rattle.std.proofs.Common.{sym, subst, ℕ, List, ◌++◌, ◌∷◌, [], Option}
use Rattle.std.proofs.lemmas.Simd.{map-map}
use Rattle.data_names.specs.declared.known.KnownItem.{KnownItem}
use Rattle.data_names.specs.Seen.{seen_item}
use Rattle.procedure_names.specs.Scoped.{name_of_record}
use Rattle.procedure_names.specs.Firsts.{AreFirsts}
use Rattle.procedure_names.proofs.FirstsOf.{firsts_step, firsts_all}
use Rattle.procedure_names.proofs.scope.names_of_records.Goals as goal

pub loop-number-preserved : goal.loop-number-preserved
loop-number-preserved c =
    firsts_step (λ (item : KnownItem). name_of_record (seen_item item)) c.args.items.now c.loop-number.number c.index-items-number.result c.loop-number.names c.add_optional.new.self c.loop-number-test.true c.index-items-number.is c.loop-number.invariant
    (λ names e h. subst (λ o. AreFirsts (names ++ o ∷ []) c.add_optional.new.self) c.name_of_record.ensures (c.in_ok-add_optional.ensures names e h))

pub returns : goal.returns
returns c =
    subst (λ (names : List (Option (List ℕ))). AreFirsts names c.loop-number.names) (sym (map-map name_of_record seen_item c.args.items.now))
    (firsts_all (λ (item : KnownItem). name_of_record (seen_item item)) c.args.items.now c.loop-number.number c.loop-number.names c.loop-number-test.false c.loop-number.invariant)

use Rattle.std.proofs.Common.{◌≡◌, ◌+◌, ◌≤◌, ◌∷◌, length, Some, arith, sym, subst, refl}
use Rattle.cob_base.specs.declared.data_entries.DataEntry.{DataEntry}
use Rattle.cob_base.specs.declared.data_entries.DataEntry.TheVariants.{Item}
use Rattle.data_names.specs.Parts.{item_entries}
use Rattle.procedure_names.specs.declared.conditions.EntryPlace.{EntryPlace}
use Rattle.procedure_names.specs.SeenConditions.{IsStepTo}
use Rattle.procedure_names.proofs.KnownConditions.{step_item, step_condition}
use Rattle.procedure_names.proofs.conditions.add_entry.Goals as goal

pub returns-in-Item : goal.returns-in-Item
returns-in-Item c = λ items made spot rest bound h l known.
    let place = c.args.place in
    let next : EntryPlace = record { items = c.saturating_add.result; last = Some place.items } in
    let within : place.items + length (item_entries (Item c.in-Item.field-0 ∷ rest)) ≤ length items =
    subst (λ (entry : DataEntry). place.items + length (item_entries (entry ∷ rest)) ≤ length items) c.in-Item.is h in
    let more : c.saturating_add.result ≡ place.items + 1 = omega (arith, c.saturating_add.ensures, bound, within) in
    subst (λ (entry : DataEntry). IsStepTo items made spot place (entry ∷ rest) rest c.args.all.now.items next) (sym c.in-Item.is)
    (step_item items made spot place next c.in-Item.field-0 rest c.args.all.now.items within more refl known)

pub returns-in_ok-add_condition-in-Condition : goal.returns-in_ok-add_condition-in-Condition
returns-in_ok-add_condition-in-Condition c = λ items made spot rest bound h l known.
    subst (λ (entry : DataEntry). IsStepTo items made spot c.args.place (entry ∷ rest) rest c.add_condition.new.all.items c.args.place) (sym c.in-Condition.is)
    (step_condition items made spot c.args.place c.in-Condition.entry rest c.add_condition.new.all.items l (c.in_ok-add_condition-in-Condition.ensures items made spot l known))

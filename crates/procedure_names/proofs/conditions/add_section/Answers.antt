use Rattle.std.proofs.Common.{◌+◌, ◌≤◌, sym, subst, arith, ◌++◌, ◌∷◌, List, length, drop, None}
use Rattle.std.proofs.lemmas.List.{drop_all}
use Rattle.cob_base.specs.declared.data_entries.DataEntry.{DataEntry}
use Rattle.data_names.specs.Parts.{item_entries}
use Rattle.procedure_names.specs.declared.conditions.EntryPlace.{EntryPlace}
use Rattle.procedure_names.specs.SeenConditions.{IsStepTo}
use Rattle.procedure_names.proofs.KnownConditions.{headed_at, steps, no_step, nowhere, section_passed}
use Rattle.procedure_names.proofs.conditions.add_section.Goals as goal

pub loop-entry-init : goal.loop-entry-init
loop-entry-init c = λ items made bound h known. no_step items made None (record { items = c.args.before; last = None }) c.args.entries.now c.args.all.now.items (nowhere items) known

pub loop-entry-preserved : goal.loop-entry-preserved
loop-entry-preserved c = λ items made bound h known.
    let entries = c.args.entries.now in
    let place = c.loop-entry.place in
    let begins : EntryPlace = record { items = c.args.before; last = None } in
    let rest = drop (c.loop-entry.entry-index + 1) entries in
    let one = c.loop-entry.invariant items made bound h known in
    let here = headed_at entries c.loop-entry.entry-index c.entry-item.result c.loop-entry-test.true c.entry-item.is in
    let within : place.items + length (item_entries (c.entry-item.result ∷ rest)) ≤ length items =
    subst (λ (some : List DataEntry). place.items + length (item_entries some) ≤ length items) here (omega (arith, one.count, h)) in
    let two = c.in_ok-place.ensures items (made ++ one.more) one.next_last rest bound within one.last_is one.known in
    steps items made None begins place c.in_ok-place.place entries (drop c.loop-entry.entry-index entries) rest c.loop-entry.all.items c.add_entry.new.all.items one
    (subst (λ (some : List DataEntry). IsStepTo items (made ++ one.more) one.next_last place some rest c.add_entry.new.all.items c.in_ok-place.place) (sym here) two)

pub returns : goal.returns
returns c = λ items made bound h known.
    let entries = c.args.entries.now in
    let begins : EntryPlace = record { items = c.args.before; last = None } in
    section_passed items made begins c.loop-entry.place entries c.loop-entry.all.items
    (subst (λ (some : List DataEntry). IsStepTo items made None begins entries some c.loop-entry.all.items c.loop-entry.place) (drop_all c.loop-entry.entry-index entries c.loop-entry-test.false) (c.loop-entry.invariant items made bound h known))

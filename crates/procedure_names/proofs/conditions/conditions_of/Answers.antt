use Rattle.std.proofs.Common.{◌≡◌, ◌+◌, ◌≤◌, ◌∙◌, sym, subst, arith, ◌++◌, append-nil, List, length, drop, [], None}
use Rattle.std.specs.List.{AllZip}
use Rattle.std.proofs.lemmas.List.{drop_all}
use Rattle.cob_base.specs.declared.divisions.FileDescription.{FileDescription}
use Rattle.cob_base.specs.declared.data_entries.DataEntry.{DataEntry}
use Rattle.data_layout.specs.Rows.{file_section, storage_section}
use Rattle.data_names.specs.Parts.{descriptions, working_storage, item_entries}
use Rattle.data_names.specs.Spots.{spots}
use Rattle.procedure_names.specs.declared.conditions.KnownCondition.{KnownCondition}
use Rattle.procedure_names.specs.Conditions.{NamedCondition, conditions_after}
use Rattle.procedure_names.specs.SeenConditions.{IsKnownCondition}
use Rattle.procedure_names.proofs.KnownConditions.{Gathered, all_sections, gathered_none, gathered_more, headed_at}
use Rattle.procedure_names.proofs.conditions.conditions_of.Goals as goal

pub loop-description-init : goal.loop-description-init
loop-description-init c = λ items bound h.
    let front = c.args.front.now in
    let start = gathered_none front items h in
    let empty = subst (λ (all : List KnownCondition). Gathered front items (all_sections (descriptions front) (working_storage front)) all 0) (sym c.new-all.ensures.items) start in
    subst (λ (files : List FileDescription). Gathered front items (all_sections files (working_storage front)) c.new-all.result.items 0) (sym c.descriptions-description-items.ensures) empty

pub loop-description-preserved : goal.loop-description-preserved
loop-description-preserved c = λ items bound h.
    let front = c.args.front.now in
    let files = c.descriptions-description-items.result.now in
    let storage = working_storage front in
    let old = c.loop-description.all.items in
    let count = c.loop-description.items in
    let file = c.description-item.result in
    let here = headed_at files c.loop-description.description-index file c.loop-description-test.true c.description-item.is in
    let g = subst (λ (some : List FileDescription). Gathered front items (all_sections some storage) old count) here (c.loop-description.invariant items bound h) in
    let within : count + length (item_entries file.records) ≤ length items = omega (arith, g.count_is) in
    let lent : c.as_slice.result.now ≡ file.records = c.as_slice.ensures in
    let added = c.in_ok-items.ensures items g.made bound (subst (λ (entries : List DataEntry). count + length (item_entries entries) ≤ length items) (sym lent) within) g.known in
    gathered_more front items (file_section file) (all_sections (drop (c.loop-description.description-index + 1) files) storage) old c.add_section.new.all.items count c.in_ok-items.items g
    (subst (λ (entries : List DataEntry). (c.in_ok-items.items ≡ count + length (item_entries entries)) × AllZip (IsKnownCondition items) c.add_section.new.all.items (g.made ++ conditions_after None entries (drop count (spots items)))) lent added)

pub returns : goal.returns
returns c = λ items bound h.
    let front = c.args.front.now in
    let files = c.descriptions-description-items.result.now in
    let storage = working_storage front in
    let old = c.loop-description.all.items in
    let new = c.add_section-2.new.all.items in
    let count = c.loop-description.items in
    let none = drop_all c.loop-description.description-index files c.loop-description-test.false in
    let g = subst (λ (some : List FileDescription). Gathered front items (all_sections some storage) old count) none (c.loop-description.invariant items bound h) in
    let within : count + length (item_entries storage) ≤ length items = omega (arith, g.count_is) in
    let lent : c.working_storage.result.now ≡ storage = c.working_storage.ensures in
    let added = c.in_ok-add_section.ensures items g.made bound (subst (λ (entries : List DataEntry). count + length (item_entries entries) ≤ length items) (sym lent) within) g.known in
    let last = gathered_more front items (storage_section storage) [] old new count c.in_ok-add_section.field-0 g
    (subst (λ (entries : List DataEntry). (c.in_ok-add_section.field-0 ≡ count + length (item_entries entries)) × AllZip (IsKnownCondition items) new (g.made ++ conditions_after None entries (drop count (spots items)))) lent added) in
    subst (λ (made : List NamedCondition). AllZip (IsKnownCondition items) new made) (sym (last.goes_on ∙ append-nil last.made)) last.known

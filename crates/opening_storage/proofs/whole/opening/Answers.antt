use Rattle.std.proofs.Common.{◌≡◌, ℕ, sym, ◌∙◌, ap, subst, List, map, length}
use Rattle.std.specs.List.{AllZip}
use Rattle.std.proofs.lemmas.List.{length-map}
use Rattle.std.proofs.lemmas.Simd.{map-map}
use Rattle.data_layout.specs.declared.layout.Item.{Item}
use Rattle.data_layout.specs.Rows.{sections}
use Rattle.data_names.specs.declared.known.KnownItem.{KnownItem}
use Rattle.data_names.specs.Items.{DataItem}
use Rattle.data_names.specs.Seen.{seen_item}
use Rattle.data_names.specs.Spots.{spots}
use Rattle.data_names.proofs.SameItems.{all_rows_once, items_once}
use Rattle.data_names.proofs.Surveys.{length-spots, length-AreFactsOf}
use Rattle.opening_storage.specs.Opening.{CanHold, IsOpening}
use Rattle.opening_storage.specs.Filling.{IsSized, before_all, closed, entered_all, pieces}
use Rattle.opening_storage.proofs.WholeStorage.{is_opening}
use Rattle.opening_storage.proofs.whole.opening.Goals as goal

pub facts_of-requires : goal.facts_of-requires
facts_of-requires c =
    let xs = c.in_ok-items.items.items in
    let items : List DataItem = map seen_item xs in
    let same = all_rows_once 0 (sections c.args.front.now) (map (λ (item : DataItem). item.row) items) _ (map (λ (item : DataItem). item.text) items) _ c.in_ok-items.ensures.rows c.in_ok-gathered.ensures.0 in
    ap (map (λ (item : KnownItem). item.row)) c.as_slice-2.ensures.value ∙ sym (map-map (λ (item : DataItem). item.row) seen_item xs) ∙ same.0 ∙ sym c.as_slice-rows.ensures.value

pub fill_all-requires-clause-many : goal.fill_all-requires-clause-many
fill_all-requires-clause-many c =
    let facts = c.in_ok-facts.facts.items in
    let items : List DataItem = map seen_item c.as_slice-2.result.now in
    let long : length facts ≡ length (spots items) = length-AreFactsOf (spots items) facts c.in_ok-facts.ensures in
    ap length c.as_slice-4.ensures.value ∙ long ∙ length-spots items ∙ length-map c.as_slice-2.result.now seen_item
    ∙ ap length c.as_slice-2.ensures.value ∙ sym (ap length c.as_slice-3.ensures.value)

pub fill_all-requires-clause-held : goal.fill_all-requires-clause-held
fill_all-requires-clause-held c =
    let items : List DataItem = map seen_item c.in_ok-items.items.items in
    let same : c.requires.held.items ≡ items = items_once c.args.front.now c.requires.held.items items c.requires.held.items_are c.in_ok-items.ensures in
    let held : AllZip CanHold items c.args.layout.now.items = subst (λ (xs : List DataItem). AllZip CanHold xs c.args.layout.now.items) same c.requires.held.held in
    let by_items : AllZip CanHold (map seen_item c.as_slice-3.result.now) c.args.layout.now.items =
    subst (λ (xs : List KnownItem). AllZip CanHold (map seen_item xs) c.args.layout.now.items) (sym c.as_slice-3.ensures.value) held in
    subst (λ (ps : List Item). AllZip CanHold (map seen_item c.as_slice-3.result.now) ps) (sym c.as_slice-5.ensures) by_items

pub returns : goal.returns
returns c =
    let items : List DataItem = map seen_item c.in_ok-items.items.items in
    let places = c.args.layout.now.items in
    let sized : AllZip IsSized (spots items) places =
    subst (λ (xs : List KnownItem). AllZip IsSized (spots (map seen_item xs)) places) c.as_slice-3.ensures.value
    (subst (λ (ps : List Item). AllZip IsSized (spots (map seen_item c.as_slice-3.result.now)) ps) c.as_slice-5.ensures c.in_ok-bytes.ensures.sized) in
    let built : c.from_vec.result ≡ (closed (entered_all before_all (pieces (spots items) places))).bytes =
    c.from_vec.ensures ∙ c.in_ok-bytes.ensures.filled
    ∙ ap (λ (xs : List KnownItem). (closed (entered_all before_all (pieces (spots (map seen_item xs)) c.as_slice-5.result.now))).bytes) c.as_slice-3.ensures.value
    ∙ ap (λ (ps : List Item). (closed (entered_all before_all (pieces (spots items) ps))).bytes) c.as_slice-5.ensures in
    let whole = is_opening c.args.front.now c.args.layout.now items c.requires.laid_out c.in_ok-items.ensures sized in
    record { items = items; items_are = c.in_ok-items.ensures; opening = subst (λ (bytes : List ℕ). IsOpening items c.args.layout.now bytes) (sym built) whole }

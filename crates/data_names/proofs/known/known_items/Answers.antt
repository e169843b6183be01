use Rattle.std.proofs.Common.{◌∙◌, ap, arith, length, map, List}
use Rattle.std.proofs.lemmas.Simd.{map-map}
use Rattle.std.proofs.lemmas.List.Elements.{All-map}
use Rattle.std.proofs.lemmas.List.{length-map}
use Rattle.data_layout.specs.Rows.{sections, picture_text}
use Rattle.data_names.specs.Parts.{Source}
use Rattle.data_names.specs.Items.{DataItem, IsTold, IsToldWhole, sources}
use Rattle.data_names.specs.Seen.{seen_source, seen_item}
use Rattle.data_names.proofs.Counted.{AreAllRows-length, length-sources}
use Rattle.data_names.proofs.known.known_items.Goals as goal

pub join-requires-clause-rows : goal.join-requires-clause-rows
join-requires-clause-rows c =
    let rows = AreAllRows-length 0 (sections c.args.front.now) c.args.rows.now c.args.texts.now c.requires in
    omega (arith, rows.0, length-sources c.args.front.now, ap length c.in_ok-sources.ensures, length-map c.in_ok-sources.sources.items seen_source, ap length c.as_slice.ensures.value)

pub join-requires-clause-texts : goal.join-requires-clause-texts
join-requires-clause-texts c =
    let rows = AreAllRows-length 0 (sections c.args.front.now) c.args.rows.now c.args.texts.now c.requires in
    omega (arith, rows.1, length-sources c.args.front.now, ap length c.in_ok-sources.ensures, length-map c.in_ok-sources.sources.items seen_source, ap length c.as_slice.ensures.value)

pub returns : goal.returns
returns c =
    let items = c.in_ok-items.items.items in
    let made = c.in_ok-items.ensures in
    let from = c.in_ok-sources.ensures in
    let all : List Source = sources c.args.front.now in
    record {
      rows = rw (map-map (λ (item : DataItem). item.row) seen_item items, map-map (λ (item : DataItem). item.text) seen_item items, made.rows, made.texts) c.requires;
      entries = map-map (λ (item : DataItem). item.source) seen_item items ∙ (made.sources ∙ (ap (map seen_source) c.as_slice.ensures.value ∙ from));
      told = All-map (λ (item : DataItem). IsTold (picture_text item.source.entry.clauses) item.kind item.signed) seen_item items made.told;
      whole = All-map (λ (item : DataItem). IsToldWhole (picture_text item.source.entry.clauses) item.whole) seen_item items made.whole;
    }

use Rattle.std.proofs.Common.{◌∙◌, sym, ap, List, map}
use Rattle.std.proofs.lemmas.Simd.{map-map}
use Rattle.data_layout.specs.Rows.{sections}
use Rattle.data_names.specs.declared.known.KnownItem.{KnownItem}
use Rattle.data_names.specs.Items.{DataItem}
use Rattle.data_names.specs.Seen.{seen_item}
use Rattle.data_names.proofs.SameItems.{all_rows_once}
use Rattle.cobol_checker.proofs.checking.judge_rows.Goals as goal

pub judge_items-requires-clause-rows : goal.judge_items-requires-clause-rows
judge_items-requires-clause-rows c =
    let xs = c.in_ok-items.items.items in
    let items : List DataItem = map seen_item xs in
    let same = all_rows_once 0 (sections c.args.program.now.front) (map (λ (item : DataItem). item.row) items) c.args.rows.now (map (λ (item : DataItem). item.text) items) c.args.texts.now c.in_ok-items.ensures.rows c.requires in
    ap (map (λ (item : KnownItem). item.row)) c.as_slice.ensures.value ∙ sym (map-map (λ (item : DataItem). item.row) seen_item xs) ∙ same.0

-- The items so far are of the entries, rows and texts so far.
use Rattle.std.proofs.Common.{◌≡◌, take, map}
use Rattle.std.specs.Prelude.{All}
use Rattle.data_names.specs.Seen.{seen_source, IsToldItem, IsToldWholeItem}
use Rattle.data_names.proofs.known.join.Given as goal

abbrev pub invariant-loop-at : goal.invariant-loop-at
invariant-loop-at l = record {
  sources : map (λ item. seen_source item.source) l.items.items ≡ map seen_source (take l.at l.sources);
  rows : map (λ item. item.row) l.items.items ≡ take l.at l.rows;
  texts : map (λ item. item.text.now) l.items.items ≡ take l.at l.texts;
  told : All IsToldItem l.items.items;
  whole : All IsToldWholeItem l.items.items;
}

use Rattle.std.proofs.Common.{sym, ◌≡◌}
use Rattle.std.proofs.Common.{refl, ◌≡◌, ◌≤◌, ◌+◌, ◌*◌, ◌∙◌, ap, arith, ◌++◌, ◌∷◌, []}
use Rattle.std.specs.Prelude.{is_some, if◌then◌else◌}
use Rattle.std.specs.List.{list_any}
use Rattle.data_layout.specs.Storage.{storage, own_size, times, opened, last_of}
use Rattle.data_layout.specs.Layout.{number_of, size_of, IsOffset}
use Rattle.data_layout.proofs.Groups.{is_repeated-is}
use Rattle.data_layout.proofs.Places.{place_is, offset_le, next_is, size_le}
use Rattle.data_layout.proofs.PlacedRows.{small_count, front_le, not_nested, good_clauses, good_number, has_picture, sized_picture, small_sum, same_offset, picture_is_sized}
use Rattle.data_layout.proofs.placing.Placing.place.Goals as goal

pub returns : goal.returns
returns c = λ before p f.
    let row = c.args.row.now in
    let rest = c.args.rest.now in
    let closed = c.close.ensures before p.walk in
    let entered = c.in_ok-enter.ensures before closed in
    let most : storage before + own_size row * times (opened (before ++ row ∷ [])) ≤ storage (before ++ row ∷ rest) = front_le before row rest in
    let few = f.few in
    let little : storage before ≤ 1000000 = omega arith in
    let total = closed.total ∙ small_count (storage before) little in
    let table = c.is_in_table.ensures ∙ ap (list_any (λ group. is_some group.occurs)) closed.rows ∙ is_repeated-is before row in
    let place = c.place_in-place.ensures ∙ ap (λ b. if b then c.args.self.now.next else c.close.new.self.total) table in
    let good = good_clauses before row f.level in
    let offset : IsOffset before row c.place_in-place.result = place_is before row c.args.self.now.next _ c.place_in-place.result p.next total place in
    let low : c.place_in-place.result ≤ storage before = offset_le before row c.place_in-place.result offset in
    let size : c.in_ok-size.size ≡ size_of row rest = c.in_ok-size.ensures (let s = size_le before row rest in omega arith) in
    let offset_is : c.narrow.result ≡ c.place_in-place.result = c.narrow.ensures (omega arith) in
    let picture = sized_picture row rest c.args.text.picture c.in_ok-size.size c.picture_of_item.result size (c.picture_of_item.ensures (has_picture row c.args.text good f.picture f.matched)) in (
      record {
        line = refl;
        name = refl;
        level = refl;
        parent = c.number_of_last-parent.ensures ∙ ap (λ rows. number_of (last_of rows)) (c.as_slice.ensures.value ∙ closed.rows);
        offset = same_offset before row c.place_in-place.result c.narrow.result offset_is offset;
        size = size;
        occurs = c.occurs_of_item.ensures (good_number row good);
        picture = picture;
      },
      record {
        walk = entered;
        next = next_is before row c.args.self.now.next _ c.place_in-place.result _ p.next total place (not_nested before row f.level) (small_sum before row rest c.place_in-place.result c.own_bytes.result c.saturating_add-self.result low few c.own_bytes.ensures c.saturating_add-self.ensures);
      },
      record {
        within = rw (offset_is, size) (let s = size_le before row rest in omega (arith, low, s));
        sized = picture_is_sized row rest c.args.text c.picture_of_item.result good f.picture f.matched picture ∙ sym size;
      },
    )

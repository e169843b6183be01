-- What a row without a fault is good for.
use Rattle.std.proofs.Common.{◌≡◌, ℕ, zero, suc, ◌+◌, ◌<◌, ◌≤◌, refl, sym, ◌∙◌, ap, subst, arith, Bool, true, false, not, ◌&&◌, Option, Some, None, List, [], ◌∷◌, ◌++◌}
use Rattle.std.specs.Prelude.{if◌then◌else◌, nat_lt, filter}
use Rattle.std.specs.List.{list_all}
use Rattle.std.proofs.lemmas.Bool.Decides.{nat_tests}
use Rattle.std.proofs.lemmas.List.Folds.{list_all-append}
use Rattle.picture_rule.specs.Picture.{PictureValue}
use Rattle.data_layout.specs.declared.layout.Layout.{Layout}
use Rattle.screen_layout.specs.declared.place.Spot.TheVariants.{On}
use Rattle.screen_rows.specs.declared.clauses.Look.{Look}
use Rattle.screen_rows.specs.declared.row.ScreenRow.{ScreenRow}
use Rattle.screen_rows.specs.declared.row.Content.{Content}
use Rattle.screen_layout.specs.declared.plan.Placed.{Placed}
use Rattle.screen_rows.specs.declared.row.Show.{Show}
use Rattle.screen_rows.specs.Clauses.{plain_look}
use Rattle.screen_rows.specs.Rows.{is_past_colours}
use Rattle.screen_layout.specs.Placing.{goes_on, opened, groups, within_look, or_outer, look_of, colour_or, bit, style_by, is_end_off, is_start_off, begun, end_after, place_of}
use Rattle.screen_layout.specs.Plans.{MayShow, MayFillFrom, IsPlacedIn}
use Rattle.screen_layout.specs.Outcome.{IsPlaced}
use Rattle.screen_layout.specs.Planned.{CanBePlaced, IsSound}
use Rattle.screen_layout.proofs.NestedLooks.{nested}
use Rattle.screen_layout.proofs.KnownPlaces.{IsKnown, good_start, begun-known}

-- ---- colours

both : (a b : Bool) → (a && b) ≡ true → (a ≡ true) × (b ≡ true)
both true true h = (refl, refl)
both true false h = cc
both false b h = cc

kept : (a : Bool) (p : ScreenRow → Bool) (row : ScreenRow) (rows : List ScreenRow) → p row ≡ true → list_all p rows ≡ true → list_all p (if a then row ∷ rows else rows) ≡ true
kept true p row rows e h = rw (e, h) refl
kept false p row rows e h = h

all_filter : (q p : ScreenRow → Bool) (rows : List ScreenRow) → list_all p rows ≡ true → list_all p (filter q rows) ≡ true
all_filter q p [] h = refl
all_filter q p (row ∷ rows) h = let two = both (p row) (list_all p rows) h in kept (q row) p row (filter q rows) two.0 (all_filter q p rows two.1)

all_opened : (p : ScreenRow → Bool) (rows : List ScreenRow) → list_all p rows ≡ true → list_all p (opened rows) ≡ true
all_opened p [] h = refl
all_opened p (row ∷ rows) h = let two = both (p row) (list_all p rows) h in kept (list_all (goes_on row) rows) p row (opened rows) two.0 (all_opened p rows two.1)

is_not : (b : Bool) → not b ≡ true → b ≡ false
is_not true h = cc
is_not false h = refl

or_not_past : (own outer : Option ℕ) → is_past_colours own ≡ false → is_past_colours outer ≡ false → is_past_colours (or_outer own outer) ≡ false
or_not_past (Some colour) outer h k = h
or_not_past None outer h k = k

module _ (pick : Look → Option ℕ) (nests : (outer own : Look) → pick (within_look outer own) ≡ or_outer (pick own) (pick outer)) where
  nested_not_past : (look : Look) (rows : List ScreenRow) → is_past_colours (pick look) ≡ false → list_all (λ r. not (is_past_colours (pick r.own.look))) rows ≡ true → is_past_colours (pick (nested look rows)) ≡ false
  nested_not_past look [] h k = h
  nested_not_past look (row ∷ rows) h k =
      let two = both (not (is_past_colours (pick row.own.look))) (list_all (λ r. not (is_past_colours (pick r.own.look))) rows) k in
      let here : is_past_colours (pick (within_look look row.own.look)) ≡ false = ap is_past_colours (nests look row.own.look) ∙ or_not_past (pick row.own.look) (pick look) (is_not (is_past_colours (pick row.own.look)) two.0) h in
      nested_not_past (within_look look row.own.look) rows here two.1

  pub look_not_past : is_past_colours (pick plain_look) ≡ false → (before : List ScreenRow) (row : ScreenRow) → list_all (λ r. not (is_past_colours (pick r.own.look))) (before ++ row ∷ []) ≡ true → is_past_colours (pick (look_of before row)) ≡ false
  look_not_past plain before row h =
      let p = λ (r : ScreenRow). not (is_past_colours (pick r.own.look)) in
      let two = both (list_all p before) (list_all p (row ∷ [])) (sym (list_all-append p before (row ∷ [])) ∙ h) in
      let inside : list_all p (groups before row) ≡ true = all_filter (λ g. goes_on g row) p (opened before) (all_opened p before two.0) in
      let whole : list_all p (groups before row ++ row ∷ []) ≡ true = list_all-append p (groups before row) (row ∷ []) ∙ rw (inside, two.1) refl in
      nested_not_past plain_look (groups before row ++ row ∷ []) plain whole

no_less : (m n : ℕ) → nat_lt m n ≡ false → n ≤ m
no_less m n h = grind (arith, nat_tests)

pub colour_le : (standard : ℕ) (colour : Option ℕ) → standard ≤ 7 → is_past_colours colour ≡ false → colour_or standard colour ≤ 7
colour_le standard None h k = h
colour_le standard (Some colour) h k = no_less 7 colour k

bit_le : (b : Bool) (worth : ℕ) → bit b worth ≤ worth
bit_le true worth = omega arith
bit_le false worth = omega arith

pub marks_le : (look : Look) → (style_by look).marks ≤ 31
marks_le look = omega (arith, bit_le look.highlight 1, bit_le look.lowlight 2, bit_le look.reverse_video 4, bit_le look.underline 8, bit_le look.blink 16)

-- ---- sizes

neither_and : (a b : Bool) → (a && b) ≡ false → a ≡ true → b ≡ false
neither_and true b h e = h
neither_and false b h e = cc

is_less : (m n : ℕ) → m < n → nat_lt m n ≡ true
is_less m n h = grind (arith, nat_tests)

-- an item with a size ends at column 80 at most
pub ends_within : (column size : ℕ) → is_end_off (On column) (Some size) ≡ false → 0 < size → column + size ≤ 81
ends_within column size h s = no_less 81 (column + size) (neither_and (nat_lt 0 size) (nat_lt 81 (column + size)) h (is_less 0 size s))

size_small : (column size : ℕ) → 1 ≤ column → is_end_off (On column) (Some size) ≡ false → size < 81
size_small column zero l h = omega arith
size_small column (suc size) l h = let e = ends_within column (suc size) h (omega arith) in omega arith

-- ---- an item that is good

abbrev pub fronts : ScreenRow → Bool
fronts r = not (is_past_colours r.own.look.front)

abbrev pub backs : ScreenRow → Bool
backs r = not (is_past_colours r.own.look.back)

pub good_item : (layout : Layout) (before : List ScreenRow) (row : ScreenRow) (content : Content) → IsKnown (end_after before) → is_start_off (place_of before row) row.size ≡ false → row.group ≡ false
    → IsSound layout row content → list_all fronts (before ++ row ∷ []) ≡ true → list_all backs (before ++ row ∷ []) ≡ true
    → CanBePlaced before row content × ((placed : Placed) → IsPlaced before row content placed → IsPlacedIn layout placed)
good_item layout before row content k off g sound f b =
    let start = good_start (begun (end_after before) row) before row (begun-known (end_after before) row k) off in
    let cells = sound.cells g in
    let fits : is_end_off (On start.column.number) (Some cells.0) ≡ false = ap (λ s. is_end_off s (Some cells.0)) (sym start.column.is_on) ∙ ap (λ s. is_end_off (place_of before row).column s) (sym cells.1) ∙ start.fits in
    let small : cells.0 < 81 = size_small start.column.number cells.0 start.column.low fits in
    let seen = cells.2 small in
    let front : is_past_colours (look_of before row).front ≡ false = look_not_past (λ l. l.front) (λ outer own. refl) refl before row f in
    let back : is_past_colours (look_of before row).back ≡ false = look_not_past (λ l. l.back) (λ outer own. refl) refl before row b in
    let front_le : colour_or 7 (look_of before row).front ≤ 7 = colour_le 7 (look_of before row).front (omega arith) front in
    let back_le : colour_or 0 (look_of before row).back ≤ 7 = colour_le 0 (look_of before row).back (omega arith) back in (
      record { line = (start.line.number, start.line.is_on); column = (start.column.number, start.column.is_on); cells = (cells.0, cells.1, omega arith); picture = (seen.0, seen.1); front = omega arith; back = omega arith },
      λ placed is.
          let same_line : On placed.line ≡ On start.line.number = sym is.line ∙ start.line.is_on in
          let line : placed.line ≡ start.line.number = cc in
          let same_column : On placed.column ≡ On start.column.number = sym is.column ∙ start.column.is_on in
          let column : placed.column ≡ start.column.number = cc in
          let same_size : Some placed.size ≡ Some cells.0 = sym is.size ∙ cells.1 in
          let size : placed.size ≡ cells.0 = cc in
          let same_picture : Some placed.picture ≡ Some seen.0 = sym is.picture ∙ seen.1 in
          let picture : placed.picture ≡ seen.0 = cc in
          record {
            line = let l = start.line.low in let h = start.line.high in (omega arith, omega arith);
            column = let l = start.column.low in let h = start.column.high in (omega arith, omega arith);
            size = size ∙ sym seen.2 ∙ ap (λ q. q.size) (sym picture);
            within = λ some. let e = ends_within start.column.number cells.0 fits (omega arith) in omega arith;
            marks = let m = marks_le (look_of before row) in let e = ap (λ s. s.marks) is.style in omega arith;
            colours = let e = ap (λ s. s.front) is.style in let d = ap (λ s. s.back) is.style in (omega arith, omega arith);
            show = subst (λ (x : Show). MayShow layout x placed.size placed.picture) (sym is.show) (subst (λ (n : ℕ). MayShow layout content.show n placed.picture) (sym size) (subst (λ (q : PictureValue). MayShow layout content.show cells.0 q) (sym picture) seen.3));
            into = subst (λ (x : Option ℕ). MayFillFrom layout x placed.size placed.picture) (sym is.into) (subst (λ (n : ℕ). MayFillFrom layout content.into n placed.picture) (sym size) (subst (λ (q : PictureValue). MayFillFrom layout content.into cells.0 q) (sym picture) seen.4));
          },
    )

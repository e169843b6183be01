-- The screens of a front without faults have plans.
use Rattle.std.proofs.Common.{◌≡◌, ◌∙◌, ◌⊎◌, inl, inr, refl, sym, ap, subst, arith, ℕ, ◌+◌, ◌==◌, nat_lt, Bool, true, false, not, ◌&&◌, ◌||◌, List, [], ◌∷◌, ◌++◌, map, Option, Some, None, is_some, is_none}
use Rattle.std.specs.Prelude.{if◌then◌else◌, filter}
use Rattle.std.specs.List.{list_any}
use Rattle.cob_base.specs.declared.line.Line.{Line}
use Rattle.cob_base.specs.declared.divisions.Front.{Front}
use Rattle.cob_base.specs.declared.screen_entries.ScreenClause.{ScreenClause}
use Rattle.cob_base.specs.declared.screen_entries.ScreenEntry.{ScreenEntry}
use Rattle.cob_base.specs.declared.screen_entries.ScreenMark.TheVariants.{Highlight, Lowlight}
use Rattle.picture_rule.specs.Picture.{PictureValue}
use Rattle.data_layout.specs.declared.layout.Layout.{Layout}
use Rattle.data_layout.specs.Rows.{sections, is_above}
use Rattle.data_layout.specs.Faults.{is_unreadable, level_fits}
use Rattle.data_layout.specs.Layout.{AreItems}
use Rattle.data_layout.specs.Outcome.{IsLayoutOf}
use Rattle.data_names.specs.Items.{DataItem}
use Rattle.data_names.specs.Parts.{screen_entries}
use Rattle.data_names.specs.Spots.{Spot, spots_after, spot_of}
use Rattle.data_names.specs.References.{found, count_of_matches}
use Rattle.data_names.proofs.SameItems.{all_rows_once}
use Rattle.entry_clauses.specs.Clauses.{sender, receiver, both_ways, shown_text, screen_picture_text, foreground, background, is_of_screen_kind}
use Rattle.entry_clauses.specs.declared.screen_clauses.ScreenClauseKind.TheVariants.{Mark}
use Rattle.entry_clauses.specs.ScreenItems.{ScreenItem, IsScreenItem, AreScreenItemsAfter, level_after}
use Rattle.name_rules.specs.Mentions.{Mention, mentions, references_of_screen, is_subscripted}
use Rattle.name_rules.specs.Subscripts.{is_miscounted}
use Rattle.front_rules.specs.Pictures.{has_bad_screen_picture}
use Rattle.entry_clauses.specs.Spelled.{is_too_wide}
use Rattle.screen_rules.specs.ScreenKinds.{has_bad_screen_level, is_no_colour, is_tied, has_picture_clause, has_text_clause, is_full_group, is_half, is_overfull, has_bad_contents, has_two_lights, has_bad_clauses, has_bad_move, is_bad_sender, is_bad_receiver, is_bad_both_ways, is_screen_of_wrong_kind}
use Rattle.screen_rules.specs.Placing as f
use Rattle.screen_layout.specs.declared.fault.ScreenFault.{ScreenFault}
use Rattle.screen_rows.specs.declared.row.ScreenRow.{ScreenRow}
use Rattle.screen_rows.specs.declared.row.Content.{Content}
use Rattle.screen_rows.specs.Clauses.{own_clauses, value_text, picture_text, to_reference, using_reference, is_twice}
use Rattle.screen_rows.specs.Rows.{content_of, content_by, by_value, has_operand, has_content, is_past_colours, is_bad_look, is_bad_pairing, next_level, IsSeen, IsScreenRow, AreScreenRows}
use Rattle.screen_layout.specs.Placing.{is_off_screen}
use Rattle.screen_layout.specs.Placing as s
use Rattle.screen_layout.specs.ScreenFaults.{fault_where, faults_after, screen_faults, IsLeast}
use Rattle.screen_layout.specs.Outcome.{IsScreenFaultOf}
use Rattle.cobol_checker.specs.Judged.{IsFaultless}
use Rattle.cobol_checker.proofs.NoFaults.{faultless_of, none_fails, none_told, empty_parts}
use Rattle.cobol_checker.proofs.LayoutNames.{Numbered}
use Rattle.cobol_checker.proofs.ScreenClauses as c
use Rattle.cobol_checker.proofs.ScreenPictures.{picture_same}
use Rattle.cobol_checker.proofs.ScreenContents.{not_false, content_is}
use Rattle.cobol_checker.proofs.ScreenReferences.{NoneIn, EntryAims, entry_aims, none_of, none_in, numbered}
use Rattle.cobol_checker.proofs.ScreenLevels.{Like, AreLike, like-push, level_more}
use Rattle.cobol_checker.proofs.ScreenPlaces.{SamePlaces, Placed, no_places, group_placed, item_placed}
use Rattle.cobol_checker.proofs.LaidOut.{neither}

-- ---- the clauses of an entry

look_kept : (clauses : List ScreenClause) → has_two_lights clauses ≡ false → is_no_colour (foreground clauses) ≡ false → is_no_colour (background clauses) ≡ false → is_bad_look (own_clauses clauses).look ≡ false
look_kept clauses lights front back =
    let high = list_any (is_of_screen_kind (Mark Highlight)) clauses in
    let low = list_any (is_of_screen_kind (Mark Lowlight)) clauses in
    let look = (own_clauses clauses).look in
    ap (λ b. (b && look.lowlight) || is_past_colours look.front || is_past_colours look.back) (c.highlight_is clauses)
    ∙ ap (λ b. (high && b) || is_past_colours look.front || is_past_colours look.back) (c.lowlight_is clauses)
    ∙ ap (λ o. (high && low) || is_past_colours o || is_past_colours look.back) (c.front_is clauses)
    ∙ ap (λ o. (high && low) || is_past_colours (foreground clauses) || is_past_colours o) (c.back_is clauses)
    ∙ none_of_three (high && low) (is_past_colours (foreground clauses)) (is_past_colours (background clauses)) lights (colour_same (foreground clauses) front) (colour_same (background clauses) back)
  where
    none_of_three : (a b c : Bool) → a ≡ false → b ≡ false → c ≡ false → (a || b || c) ≡ false
    none_of_three a b c e f g = rw (e, f, g) refl

    colour_same : (colour : Option ℕ) → is_no_colour colour ≡ false → is_past_colours colour ≡ false
    colour_same None h = refl
    colour_same (Some colour) h = h

operand_same : (clauses : List ScreenClause) → has_operand clauses ≡ (is_some (sender clauses) || is_some (receiver clauses) || is_some (both_ways clauses))
operand_same clauses =
    ap (λ o. is_some o || is_some (to_reference clauses) || is_some (using_reference clauses)) (c.from_is clauses)
    ∙ ap (λ o. is_some (sender clauses) || is_some o || is_some (using_reference clauses)) (c.to_is clauses)
    ∙ ap (λ o. is_some (sender clauses) || is_some (receiver clauses) || is_some o) (c.using_is clauses)

content_same : (item : ScreenItem) → has_content item.entry.clauses ≡ (has_picture_clause item || has_text_clause item || is_tied item)
content_same item =
    let clauses = item.entry.clauses in
    ap (λ o. is_some o || is_some (value_text clauses) || has_operand clauses) (c.picture_is clauses)
    ∙ ap (λ o. has_picture_clause item || is_some o || has_operand clauses) (c.value_is clauses)
    ∙ ap (λ b. has_picture_clause item || has_text_clause item || b) (operand_same clauses)

none_is_not : {A : Type 0} (o : Option A) → is_none o ≡ not (is_some o)
none_is_not None = refl
none_is_not (Some x) = refl

pairs : (p v t : Bool) → ((p && not t) || (not p && t)) ≡ false → (v && p) ≡ false → ((p && not t) || (t && not p) || (p && v)) ≡ false
pairs true true true h k = cc k
pairs true true false h k = cc k
pairs true false true h k = refl
pairs true false false h k = cc h
pairs false true true h k = cc h
pairs false true false h k = refl
pairs false false true h k = cc h
pairs false false false h k = refl

pairing_kept : (item : ScreenItem) → is_half item ≡ false → (has_text_clause item && has_picture_clause item) ≡ false → is_bad_pairing item.entry.clauses ≡ false
pairing_kept item h k =
    let clauses = item.entry.clauses in
    ap (λ o. (is_some o && not (has_operand clauses)) || (has_operand clauses && is_none o) || (is_some o && is_some (value_text clauses))) (c.picture_is clauses)
    ∙ ap (λ o. (has_picture_clause item && not (has_operand clauses)) || (has_operand clauses && is_none (screen_picture_text clauses)) || (has_picture_clause item && is_some o)) (c.value_is clauses)
    ∙ ap (λ b. (has_picture_clause item && not b) || (b && is_none (screen_picture_text clauses)) || (has_picture_clause item && has_text_clause item)) (operand_same clauses)
    ∙ ap (λ b. (has_picture_clause item && not (is_tied item)) || (is_tied item && b) || (has_picture_clause item && has_text_clause item)) (none_is_not (screen_picture_text clauses))
    ∙ pairs (has_picture_clause item) (has_text_clause item) (is_tied item) h k

-- ---- what an entry shows and fills

-- moves that the rules do not refuse
record Moves (items : List DataItem) (clauses : List ScreenClause) (p : PictureValue) : Type 0 where
  from : is_bad_sender items (sender clauses) p ≡ false
  to : is_bad_receiver items p (receiver clauses) ≡ false
  using : is_bad_both_ways items p (both_ways clauses) ≡ false

moves_by : (items : List DataItem) (item : ScreenItem) (p : PictureValue) → item.signed ≡ false → item.picture ≡ Some p → has_bad_move items item ≡ false → Moves items item.entry.clauses p
moves_by items item p signed picture h =
    let clauses = item.entry.clauses in
    let judged : (is_bad_sender items (sender clauses) p || is_bad_receiver items p (receiver clauses) || is_bad_both_ways items p (both_ways clauses)) ≡ false = rw (signed, picture) at h in
    let two = neither (is_bad_sender items (sender clauses) p || is_bad_receiver items p (receiver clauses)) _ judged in
    let one = neither (is_bad_sender items (sender clauses) p) _ two.0 in
    record { from = one.0; to = one.1; using = two.1 }

content_found : (layout : Layout) (items : List DataItem) (clauses : List ScreenClause) (p : PictureValue) (picture : Option PictureValue) → picture ≡ Some p → Moves items clauses p
    → (is_some (both_ways clauses) && (is_some (sender clauses) || is_some (receiver clauses))) ≡ false
    → EntryAims layout items clauses → is_some (content_of layout clauses picture) ≡ true
content_found layout items clauses p picture e m over aims =
    let otherwise = by_value (value_text clauses) in
    ap (λ o. is_some (content_of layout clauses o)) e
    ∙ ap (λ o. is_some (content_by layout p o (to_reference clauses) (using_reference clauses) otherwise)) (c.from_is clauses)
    ∙ ap (λ o. is_some (content_by layout p (sender clauses) o (using_reference clauses) otherwise)) (c.to_is clauses)
    ∙ ap (λ o. is_some (content_by layout p (sender clauses) (receiver clauses) o otherwise)) (c.using_is clauses)
    ∙ content_is layout items p (sender clauses) (receiver clauses) (both_ways clauses) otherwise aims.from aims.to aims.using m.from m.to m.using over

-- ---- an entry by itself

-- what the rules say of an entry
record Rules (items : List DataItem) (item : ScreenItem) : Type 0 where
  twice : item.row.twice ≡ false
  full : is_full_group item ≡ false
  half : is_half item ≡ false
  valued : (has_text_clause item && has_picture_clause item) ≡ false
  over : (is_some (both_ways item.entry.clauses) && (is_some (sender item.entry.clauses) || is_some (receiver item.entry.clauses))) ≡ false
  lights : has_two_lights item.entry.clauses ≡ false
  front : is_no_colour (foreground item.entry.clauses) ≡ false
  back : is_no_colour (background item.entry.clauses) ≡ false
  plain : list_any is_subscripted (references_of_screen item.entry) ≡ false
  moves : has_bad_move items item ≡ false
  level : (item.row.level == 77) ≡ false

rules_of : (items : List DataItem) (spot : Spot ScreenItem) → is_screen_of_wrong_kind items spot ≡ false → Rules items spot.item × (level_fits (map (λ (item : ScreenItem). item.row) spot.before) spot.item.row ≡ true)
rules_of items spot h =
    let item = spot.item in
    let clauses = item.entry.clauses in
    let k4 = neither (has_bad_screen_level spot || item.row.twice || has_bad_contents item || has_bad_clauses item) (has_bad_move items item) h in
    let k3 = neither (has_bad_screen_level spot || item.row.twice || has_bad_contents item) (has_bad_clauses item) k4.0 in
    let k2 = neither (has_bad_screen_level spot || item.row.twice) (has_bad_contents item) k3.0 in
    let k1 = neither (has_bad_screen_level spot) item.row.twice k2.0 in
    let level = neither (not (level_fits (map (λ (other : ScreenItem). other.row) spot.before) item.row)) (item.row.level == 77) k1.0 in
    let c2 = neither (is_full_group item || is_half item) (is_overfull item) k2.1 in
    let c1 = neither (is_full_group item) (is_half item) c2.0 in
    let o1 = neither (has_text_clause item && has_picture_clause item) _ c2.1 in
    let l3 = neither (has_two_lights clauses || is_no_colour (foreground clauses) || is_no_colour (background clauses)) (list_any is_subscripted (references_of_screen item.entry)) k3.1 in
    let l2 = neither (has_two_lights clauses || is_no_colour (foreground clauses)) (is_no_colour (background clauses)) l3.0 in
    let l1 = neither (has_two_lights clauses) (is_no_colour (foreground clauses)) l2.0 in (
      record {
        twice = k1.1;
        full = c1.0;
        half = c1.1;
        valued = o1.0;
        over = o1.1;
        lights = l1.0;
        front = l1.1;
        back = l2.1;
        plain = l3.1;
        moves = k4.1;
        level = level.1;
      },
      not_false (level_fits (map (λ (other : ScreenItem). other.row) spot.before) item.row) level.0,
    )

shown_kept : (written found : Bool) → (written ≡ true → found ≡ true) → (written && not found) ≡ false
shown_kept true found h = rw (h refl) refl
shown_kept false found h = refl

next_same : (rest : List ScreenEntry) → next_level rest ≡ level_after rest
next_same [] = refl
next_same (entry ∷ rest) = refl

none_of_six : (a b c d e g : Bool) → a ≡ false → b ≡ false → c ≡ false → d ≡ false → e ≡ false → g ≡ false → (a || b || c || d || e || g) ≡ false
none_of_six a b c d e g h i j k l m = rw (h, i, j, k, l, m) refl

-- an entry that keeps the rules is not at fault by itself, and both see it alike
record Good (item : ScreenItem) (row : ScreenRow) : Type 0 where
  sound : row.bad ≡ false
  like : Like item row

good : (layout : Layout) (items : List DataItem) (first : Bool) (n : ℕ) (rest : List ScreenEntry) (item : ScreenItem) (row : ScreenRow) (content : Content)
    → IsScreenItem first n rest item → IsScreenRow layout item.entry rest row content → Rules items item → has_bad_screen_picture item ≡ false → is_too_wide item.row.spelled ≡ false
    → EntryAims layout items item.entry.clauses → Good item row
good layout items first n rest item row content i r k picture wide aims =
    let clauses = item.entry.clauses in
    let text = screen_picture_text clauses in
    let value = shown_text clauses in
    let kept = neither (is_unreadable item.row.spelled) item.signed picture in
    let seen = subst (λ (v : Option (List ℕ)). IsSeen text v row.size content.picture) (c.value_is clauses)
    (subst (λ (t : Option (List ℕ)). IsSeen t (value_text clauses) row.size content.picture) (c.picture_is clauses) r.seen) in
    let same = picture_same text value item.row.spelled item.row.size item.picture i.told.0 item.signed row.size content.picture i.read i.told.1 kept.1 kept.0 wide seen in
    let group : row.group ≡ item.row.group = r.group ∙ ap (is_above item.entry.level) (next_same rest) ∙ sym i.group in
    let found : is_some text ≡ true → is_some (content_of layout clauses content.picture) ≡ true =
    λ h. let p = same.pictured h in content_found layout items clauses p.0 content.picture p.1 (moves_by items item p.0 kept.1 p.2 k.moves) k.over aims in
    let full : (row.group && has_content clauses) ≡ false =
    ap (λ b. b && has_content clauses) group ∙ ap (λ b. item.row.group && b) (content_same item) ∙ k.full in
    let shown : (is_some (picture_text clauses) && not (is_some (content_of layout clauses content.picture))) ≡ false =
    ap (λ o. is_some o && not (is_some (content_of layout clauses content.picture))) (c.picture_is clauses)
    ∙ shown_kept (is_some text) (is_some (content_of layout clauses content.picture)) found in
    record {
      sound = r.bad ∙ none_of_six (is_twice clauses) (is_bad_look (own_clauses clauses).look) (row.group && has_content clauses) (is_bad_pairing clauses)
          (is_some (picture_text clauses) && not (is_some (content_of layout clauses content.picture))) (item.entry.level == 77)
          (c.twice_is clauses ∙ sym i.twice ∙ k.twice) (look_kept clauses k.lights k.front k.back) full (pairing_kept item k.half k.valued) shown (ap (λ l. l == 77) (sym i.level) ∙ k.level);
      like = record {
        level = r.level ∙ sym i.level;
        group = group;
        line = ap (λ own. own.line) r.own ∙ c.line_is clauses;
        column = ap (λ own. own.column) r.own ∙ c.column_is clauses;
        bytes = same.bytes;
        shown = same.shown;
        size = same.size_is;
      };
    }

-- ---- one entry after another

not_told : (b : Bool) (line : Line) → (if b then line ∷ [] else []) ≡ [] → b ≡ false
not_told true line h = cc h
not_told false line h = refl

-- the place of an item after others, and what is told of the later ones
record Step (before : List ScreenItem) (rows : List ScreenRow) (item : ScreenItem) (row : ScreenRow) (rest : List ScreenItem) : Type 0 where
  last : f.End
  placed : Placed last (before ++ item ∷ []) rows row
  later : f.off_screen_after last (before ++ item ∷ []) rest ≡ []

step : (group : Bool) (last : f.End) (before : List ScreenItem) (rows : List ScreenRow) (item : ScreenItem) (row : ScreenRow) (rest : List ScreenItem) → item.row.group ≡ group → Like item row → SamePlaces last before rows
    → f.off_screen_after last before (item ∷ rest) ≡ [] → Step before rows item row rest
step true last before rows item row rest g l p h =
    let here = f.begun last item in
    let place = f.place_after here before item in
    record {
      last = here;
      placed = group_placed last before rows item row l g p;
      later = ap (λ b. if b then f.off_screen_after here (before ++ item ∷ []) rest else f.off_screen_line place item.row.line ++ f.off_screen_after (f.end_of place) (before ++ item ∷ []) rest) (sym g) ∙ h;
    }
step false last before rows item row rest g l p h =
    let here = f.begun last item in
    let place = f.place_after here before item in
    let told : f.off_screen_line place item.row.line ++ f.off_screen_after (f.end_of place) (before ++ item ∷ []) rest ≡ [] =
    ap (λ b. if b then f.off_screen_after here (before ++ item ∷ []) rest else f.off_screen_line place item.row.line ++ f.off_screen_after (f.end_of place) (before ++ item ∷ []) rest) (sym g) ∙ h in
    let parts = empty_parts (f.off_screen_line place item.row.line) (f.off_screen_after (f.end_of place) (before ++ item ∷ []) rest) told in
    record {
      last = f.end_of place;
      placed = item_placed last before rows item row l g p (not_told (f.is_off_screen place) item.row.line parts.0);
      later = parts.1;
    }

no_fault : (off bad fits : Bool) (line : Line) (later : List ScreenFault) → off ≡ false → bad ≡ false → fits ≡ true → later ≡ []
    → (fault_where off (ScreenFault.OffScreen line) ++ fault_where (bad || not fits) (ScreenFault.BadItem line)) ++ later ≡ []
no_fault off bad fits line later e g h k = rw (e, g, h) k

-- the program's items, each with its number, and those of the layout
record Laid (layout : Layout) (items : List DataItem) : Type 0 where
  numbers : Numbered 0 items
  are : AreItems [] (map (λ (item : DataItem). item.row) items) (map (λ (item : DataItem). item.text) items) layout.items

-- what is known of the entries after others
record Known (items : List DataItem) (entries : List ScreenEntry) (before screens : List ScreenItem) (done : List ScreenRow) (last : f.End) : Type 0 where
  like : AreLike before done
  places : SamePlaces last before done
  stay : f.off_screen_after last before screens ≡ []
  kinds : list_any (is_screen_of_wrong_kind items) (spots_after before screens) ≡ false
  pictures : list_any has_bad_screen_picture screens ≡ false
  limits : list_any (λ (item : ScreenItem). is_too_wide item.row.spelled) screens ≡ false
  names : NoneIn items entries

planned : (layout : Layout) (items : List DataItem) → Laid layout items → (first : Bool) (n : ℕ) (entries : List ScreenEntry) (before screens : List ScreenItem) (done rows : List ScreenRow) (contents : List Content) (last : f.End)
    → AreScreenItemsAfter first n entries screens → AreScreenRows layout entries rows contents → Known items entries before screens done last → faults_after done rows ≡ []
planned layout items l first n [] before screens done rows contents last a r k = ap (faults_after done) r.0
planned layout items l first n (entry ∷ rest) before [] done rows contents last a r k = absurd a
planned layout items l first n (entry ∷ rest) before (item ∷ screens) done [] contents last a r k = absurd r
planned layout items l first n (entry ∷ rest) before (item ∷ screens) done (row ∷ rows) [] last a r k = absurd r
planned layout items l first n (entry ∷ rest) before (item ∷ screens) done (row ∷ rows) (content ∷ contents) last a r k =
    let same : entry ≡ item.entry = sym a.0 in
    let names = none_of items item.entry rest (subst (λ (e : ScreenEntry). NoneIn items (e ∷ rest)) same k.names) in
    let kinds = neither (is_screen_of_wrong_kind items (spot_of before item screens)) _ k.kinds in
    let pictures = neither (has_bad_screen_picture item) _ k.pictures in
    let limits = neither (is_too_wide item.row.spelled) _ k.limits in
    let rules = rules_of items (spot_of before item screens) kinds.0 in
    let aims = entry_aims layout items item.entry l.numbers l.are names.0 rules.0.plain in
    let one = good layout items first n rest item row content a.1 (subst (λ (e : ScreenEntry). IsScreenRow layout e rest row content) same r.0) rules.0 pictures.0 limits.0 aims in
    let next = step item.row.group last before done item row screens refl one.like k.places k.stay in
    let fits = level_more before done item row k.like one.like.level rules.1 in
    let later = planned layout items l false (n + 1) rest (before ++ item ∷ []) screens (done ++ row ∷ []) rows contents next.last a.2 r.1 (record {
      like = like-push before done item row k.like one.like;
      places = next.placed.next;
      stay = next.later;
      kinds = kinds.1;
      pictures = pictures.1;
      limits = limits.1;
      names = names.1;
    }) in
    no_fault (is_off_screen done row) row.bad (s.level_fits done row) row.line (faults_after (done ++ row ∷ []) rows) next.placed.stays one.sound fits later

-- ---- the front

none_least : (fault : ScreenFault) → IsLeast [] fault → ⊥
none_least fault h = let among = h.among in omega (arith, among.1)

laid_of : (front : Front) (layout : Layout) (h : IsFaultless front) → IsLayoutOf (sections front) layout → Laid layout h.items
laid_of front layout h l =
    let rows = map (λ (item : DataItem). item.row) h.items in
    let texts = map (λ (item : DataItem). item.text) h.items in
    let same = all_rows_once 0 (sections front) l.rows rows l.texts texts l.read h.items_are.rows in
    record {
      numbers = numbered (sections front) h.items texts h.items_are.rows;
      are = subst (λ others. AreItems [] rows others layout.items) same.1 (subst (λ others. AreItems [] others l.texts layout.items) same.0 l.laid_out.items);
    }

-- a front without faults has no fault of its screens
pub no_screen_fault : (front : Front) (layout : Layout) (fault : ScreenFault) → IsFaultless front → IsLayoutOf (sections front) layout → IsScreenFaultOf layout (screen_entries front) fault → ⊥
no_screen_fault front layout fault h l s =
    let faultless = faultless_of front h.items h.screens h.faultless in
    let none = none_fails front h.items h.screens faultless in
    let line : Mention → Line = λ (one : Mention). one.line in
    let unknown = empty_parts _ (map line (filter (λ (one : Mention). count_of_matches h.items one.reference == 0) (mentions front))) faultless.unknown in
    let names = none_in front h.items (none_told line (λ (one : Mention). count_of_matches h.items one.reference == 0) (mentions front) unknown.1)
    (none_told line (λ (one : Mention). nat_lt 1 (count_of_matches h.items one.reference)) (mentions front) faultless.ambiguous)
    (none_told line (λ (one : Mention). is_miscounted (is_some one.reference.subscript) (found h.items one.reference)) (mentions front) faultless.subscripts) in
    let no_faults : screen_faults s.rows ≡ [] =
    planned layout h.items (laid_of front layout h l) true 0 (screen_entries front) [] h.screens [] s.rows s.contents f.start h.screens_are s.read (record {
      like = tt;
      places = no_places;
      stay = faultless.placing;
      kinds = none.screens_wrong;
      pictures = none.screen_pictures;
      limits = none.screens_past;
      names = names;
    }) in
    none_least fault (subst (λ all. IsLeast all fault) no_faults s.least)

-- planning them fails for want of memory alone
pub only_memory_screens : (front : Front) (layout : Layout) (fault : ScreenFault) → IsFaultless front → IsLayoutOf (sections front) layout
    → (fault ≡ ScreenFault.NoMemory) ⊎ IsScreenFaultOf layout (screen_entries front) fault → fault ≡ ScreenFault.NoMemory
only_memory_screens front layout fault h l (inl e) = e
only_memory_screens front layout fault h l (inr s) = absurd (no_screen_fault front layout fault h l s)

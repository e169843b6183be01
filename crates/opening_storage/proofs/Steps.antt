-- One more item.
use Rattle.std.proofs.Common.{◌≡◌, ◌<◌, ◌&&◌, ℕ, zero, suc, Bool, true, refl, sym, ◌∙◌, ap, subst, arith, List, [], ◌∷◌, ◌++◌, length, take, drop, get_or}
use Rattle.std.specs.Prelude.{not}
use Rattle.std.specs.List.{AllZip}
use Rattle.data_layout.specs.declared.layout.Item.{Item}
use Rattle.data_names.specs.declared.facts.Facts.{Facts}
use Rattle.data_names.specs.Facts.{AreFactsOf}
use Rattle.data_names.specs.Items.{DataItem}
use Rattle.data_names.specs.Spots.{Spot, spots_after, spot_of, is_in_value, is_repeated}
use Rattle.std.proofs.Common.{◌≤◌, ◌+◌, add-one}
use Rattle.std.proofs.lemmas.Slice.Zip.{AllZip-long}
use Rattle.data_names.specs.Spots.{spots}
use Rattle.data_names.proofs.Surveys.{length-spots}
use Rattle.opening_storage.specs.Opening.{CanHold}
use Rattle.opening_storage.specs.Filling.{Filled, Piece, IsSized, before_all, entered, entered_all, may_give, own_bytes, piece_of, pieces}

abbrev pub GivesSized : Bool → DataItem → Item → Type 0
GivesSized in_value item place = (may_give item && not in_value) ≡ true → length (own_bytes item place.picture) ≡ place.picture.size

-- the pieces from a place on
pub piece_at : (before items : List DataItem) (facts : List Facts) (places : List Item) (k : ℕ) (item : DataItem) (one : Facts) (place : Item)
    → AreFactsOf (spots_after before items) facts → k < length items → k < length facts → k < length places → item ≡ get_or items k item → one ≡ get_or facts k one → place ≡ get_or places k place
    → drop k (pieces (spots_after before items) places) ≡ piece_of one.in_value one.repeated item place.picture ∷ drop (suc k) (pieces (spots_after before items) places)
piece_at before [] facts places k item one place h a b c i f p = absurd (omega arith)
piece_at before (x ∷ items) [] places k item one place h a b c i f p = absurd (omega arith)
piece_at before (x ∷ items) (fact ∷ facts) [] k item one place h a b c i f p = absurd (omega arith)
piece_at before (x ∷ items) (fact ∷ facts) (y ∷ places) zero item one place h a b c i f p =
    let all : List Piece = pieces (spots_after (before ++ x ∷ []) items) places in
    let in_value : is_in_value (spot_of before x items) ≡ one.in_value = sym (ap (λ (o : Facts). o.in_value) f ∙ h.0.in_value) in
    let repeated : is_repeated (spot_of before x items) ≡ one.repeated = sym (ap (λ (o : Facts). o.repeated) f ∙ h.0.repeated) in
    ap (λ b. piece_of b (is_repeated (spot_of before x items)) x y.picture ∷ all) in_value
    ∙ ap (λ b. piece_of one.in_value b x y.picture ∷ all) repeated
    ∙ ap (λ z. piece_of one.in_value one.repeated z y.picture ∷ all) (sym i)
    ∙ ap (λ (z : Item). piece_of one.in_value one.repeated item z.picture ∷ all) (sym p)
piece_at before (x ∷ items) (fact ∷ facts) (y ∷ places) (suc k) item one place h a b c i f p =
    piece_at (before ++ x ∷ []) items facts places k item one place h.1 (omega arith) (omega arith) (omega arith) i f p

-- one more item is sized
pub sized_more : (before items : List DataItem) (facts : List Facts) (places : List Item) (k : ℕ) (item : DataItem) (one : Facts) (place : Item)
    → AreFactsOf (spots_after before items) facts → k < length items → k < length facts → k < length places → item ≡ get_or items k item → one ≡ get_or facts k one → place ≡ get_or places k place
    → AllZip IsSized (take k (spots_after before items)) (take k places) → GivesSized one.in_value item place → AllZip IsSized (take (suc k) (spots_after before items)) (take (suc k) places)
sized_more before [] facts places k item one place h a b c i f p s g = absurd (omega arith)
sized_more before (x ∷ items) [] places k item one place h a b c i f p s g = absurd (omega arith)
sized_more before (x ∷ items) (fact ∷ facts) [] k item one place h a b c i f p s g = absurd (omega arith)
sized_more before (x ∷ items) (fact ∷ facts) (y ∷ places) zero item one place h a b c i f p s g =
    let in_value : one.in_value ≡ is_in_value (spot_of before x items) = ap (λ (o : Facts). o.in_value) f ∙ h.0.in_value in
    (subst (λ b. GivesSized b x y) in_value (subst (λ (z : DataItem). GivesSized one.in_value z y) i (subst (λ (z : Item). GivesSized one.in_value item z) p g)), tt)
sized_more before (x ∷ items) (fact ∷ facts) (y ∷ places) (suc k) item one place h a b c i f p s g =
    (s.0, sized_more (before ++ x ∷ []) items facts places k item one place h.1 (omega arith) (omega arith) (omega arith) i f p s.1 g)

-- ---- the loop

pub record SoFar (all : List (Spot DataItem)) (places : List Item) (at : ℕ) (filled : Filled) : Type 0 where
  pub filled_is : entered_all filled (drop at (pieces all places)) ≡ entered_all before_all (pieces all places)
  pub sized : AllZip IsSized (take at all) (take at places)

pub more_so_far : (items : List DataItem) (facts : List Facts) (places : List Item) (k : ℕ) (item : DataItem) (one : Facts) (place : Item) (old new : Filled)
    → AreFactsOf (spots items) facts → k < length items → k < length facts → k < length places → item ≡ get_or items k item → one ≡ get_or facts k one → place ≡ get_or places k place
    → SoFar (spots items) places k old → new ≡ entered old (piece_of one.in_value one.repeated item place.picture) → GivesSized one.in_value item place → SoFar (spots items) places (k + 1) new
more_so_far items facts places k item one place old new h a b c i f p so e g =
    let next = piece_at [] items facts places k item one place h a b c i f p in
    let after : entered_all new (drop (suc k) (pieces (spots items) places)) ≡ entered_all old (drop k (pieces (spots items) places)) =
    ap (λ filled. entered_all filled (drop (suc k) (pieces (spots items) places))) e ∙ sym (ap (entered_all old) next) in
    let all : SoFar (spots items) places (suc k) new = record { filled_is = after ∙ so.filled_is; sized = sized_more [] items facts places k item one place h a b c i f p so.sized g } in
    subst (λ n. SoFar (spots items) places n new) (sym (add-one k)) all

none_left : (all : List (Spot DataItem)) (places : List Item) (k : ℕ) → length all ≤ k → drop k (pieces all places) ≡ []
none_left [] places zero h = refl
none_left [] places (suc k) h = refl
none_left (spot ∷ all) [] zero h = refl
none_left (spot ∷ all) [] (suc k) h = refl
none_left (spot ∷ all) (place ∷ places) zero h = absurd (omega arith)
none_left (spot ∷ all) (place ∷ places) (suc k) h = none_left all places k (omega arith)

all_sized : (all : List (Spot DataItem)) (places : List Item) (k : ℕ) → length all ≤ k → length places ≤ k → AllZip IsSized (take k all) (take k places) → AllZip IsSized all places
all_sized [] [] k h l s = tt
all_sized [] (place ∷ places) zero h l s = absurd (omega arith)
all_sized [] (place ∷ places) (suc k) h l s = s
all_sized (spot ∷ all) places zero h l s = absurd (omega arith)
all_sized (spot ∷ all) [] (suc k) h l s = s
all_sized (spot ∷ all) (place ∷ places) (suc k) h l s = (s.0, all_sized all places k (omega arith) (omega arith) s.1)

pub all_filled : (items : List DataItem) (places : List Item) (k : ℕ) (filled : Filled) → length items ≤ k → SoFar (spots items) places k filled → filled ≡ entered_all before_all (pieces (spots items) places)
all_filled items places k filled h so =
    let few : length (spots items) ≤ k = omega (arith, length-spots items) in
    sym (ap (entered_all filled) (none_left (spots items) places k few)) ∙ so.filled_is

pub all_given : (items : List DataItem) (places : List Item) (k : ℕ) (filled : Filled) → length items ≤ k → length places ≡ length items → SoFar (spots items) places k filled → AllZip IsSized (spots items) places
all_given items places k filled h l so =
    all_sized (spots items) places k (omega (arith, length-spots items)) (omega arith) so.sized

-- each item can open with its VALUE
pub held_at : (items : List DataItem) (places : List Item) (k : ℕ) (item : DataItem) (place : Item) → AllZip CanHold items places → k < length items → item ≡ get_or items k item → place ≡ get_or places k place → CanHold item place
held_at [] places k item place h l i p = absurd (omega arith)
held_at (x ∷ items) [] k item place h l i p = absurd h
held_at (x ∷ items) (y ∷ places) zero item place h l i p = subst (λ z. CanHold z place) (sym i) (subst (λ z. CanHold x z) (sym p) h.0)
held_at (x ∷ items) (y ∷ places) (suc k) item place h l i p = held_at items places k item place h.1 (omega arith) i p

pub as_many : (items : List DataItem) (places : List Item) → AllZip CanHold items places → length places ≡ length items
as_many items places h = AllZip-long CanHold items places h

-- What FROM, TO and USING name on a screen is shown and filled in the plans where the rules on the front refuse nothing of it.
use Rattle.std.proofs.Common.{◌≡◌, ◌∙◌, refl, sym, ap, arith, ℕ, nat_lt, nat_le, Bool, true, false, not, ◌&&◌, ◌||◌, List, length, Option, Some, None, is_some, slice_get}
use Rattle.std.specs.Prelude.{if◌then◌else◌}
use Rattle.std.proofs.lemmas.Bool.Decides.{nat_tests}
use Rattle.cob_base.specs.declared.operands.Constant.{Constant}
use Rattle.cob_base.specs.declared.operands.Constant.TheVariants as c
use Rattle.cob_base.specs.declared.operands.Operand.{Operand}
use Rattle.cob_base.specs.declared.operands.Operand.TheVariants as o
use Rattle.cob_base.specs.declared.operands.Reference.{Reference}
use Rattle.picture_rule.specs.Picture.{PictureValue}
use Rattle.cob_value.specs.Moves.{may_move, may_fill}
use Rattle.data_layout.specs.declared.layout.Item.{Item}
use Rattle.data_layout.specs.declared.layout.Layout.{Layout}
use Rattle.data_names.specs.Items.{DataItem}
use Rattle.screen_rules.specs.ScreenKinds.{is_literal, is_bad_move, is_bad_constant, is_bad_sender, is_bad_receiver, is_bad_both_ways}
use Rattle.name_rules.specs.Mentions.{picture_found}
use Rattle.screen_rows.specs.declared.row.Show.{Show}
use Rattle.screen_rows.specs.declared.row.Show.TheVariants as s
use Rattle.screen_rows.specs.Rows.{target, source, sink, literal_picture, constant_shown, as_text, operand_shown, content_by}
use Rattle.cobol_checker.proofs.LaidOut.{neither}

pub not_false : (b : Bool) → not b ≡ false → b ≡ true
not_false true h = refl
not_false false h = cc h

-- ---- references

-- a reference names one item of the layout, by itself, whose picture the rules find
pub record Aims (layout : Layout) (items : List DataItem) (reference : Reference) : Type 0 where
  pub place : ℕ
  pub target_is : target layout reference ≡ Some place
  pub item : Item
  pub at : slice_get layout.items place ≡ Some item
  pub picture_is : picture_found items reference ≡ Some item.picture

abbrev pub OptionAims : Layout → List DataItem → Option Reference → Type 0
OptionAims layout items None = Unit {0}
OptionAims layout items (Some reference) = Aims layout items reference

abbrev pub OperandAims : Layout → List DataItem → Option Operand → Type 0
OperandAims layout items None = Unit {0}
OperandAims layout items (Some (o.Reference reference)) = Aims layout items reference
OperandAims layout items (Some (o.Constant constant)) = Unit {0}

passed : (b : Bool) (place : ℕ) → b ≡ true → (if b then Some place else None) ≡ Some place
passed b place e = rw e refl

source_is : (layout : Layout) (items : List DataItem) (p : PictureValue) (reference : Reference) (a : Aims layout items reference) → is_bad_move (picture_found items reference) (Some p) ≡ false
    → source layout p reference ≡ Some a.place
source_is layout items p reference a h =
    let may = not_false (may_move a.item.picture p) (ap (λ from. is_bad_move from (Some p)) (sym a.picture_is) ∙ h) in
    rw (a.target_is, a.at) (passed (may_move a.item.picture p) a.place may)

sink_is : (layout : Layout) (items : List DataItem) (p : PictureValue) (reference : Reference) (a : Aims layout items reference) → is_bad_move (Some p) (picture_found items reference) ≡ false
    → sink layout p reference ≡ Some a.place
sink_is layout items p reference a h =
    let may = not_false (may_move p a.item.picture) (ap (is_bad_move (Some p)) (sym a.picture_is) ∙ h) in
    rw (a.target_is, a.at) (passed (may_move p a.item.picture) a.place may)

-- ---- constants

short : (n : ℕ) → nat_lt 9999 n ≡ false → nat_le n 9999 ≡ true
short n h = grind (arith, nat_tests)

shown_where : (b : Bool) (bytes : List ℕ) → b ≡ true → is_some (if b then Some bytes else None) ≡ true
shown_where b bytes e = rw e refl

and_true : (a b : Bool) → a ≡ true → b ≡ true → (a && b) ≡ true
and_true a b e f = rw (e, f) refl

constant_is : (constant : Constant) (p : PictureValue) → is_bad_constant constant p ≡ false → is_some (constant_shown constant p) ≡ true
constant_is (c.Text text) p h = shown_where (nat_le (length text) 9999) _ (short (length text) (neither (nat_lt 9999 (length text)) _ h).0)
constant_is (c.Number number) p h =
    let parts = neither (not (is_literal number)) (not (may_move (literal_picture number) p)) h in
    shown_where (is_literal number && may_move (literal_picture number) p) _
    (and_true (is_literal number) (may_move (literal_picture number) p) (not_false (is_literal number) parts.0) (not_false (may_move (literal_picture number) p) parts.1))
constant_is (c.Figurative figure) p h = shown_where (may_fill figure p) _ (not_false (may_fill figure p) h)

-- ---- what is shown and filled

is_there : {A : Type 0} (found : Option A) → is_some found ≡ true → (x : A) × (found ≡ Some x)
is_there None h = cc h
is_there (Some x) h = (x, refl)

operand_is : (layout : Layout) (items : List DataItem) (p : PictureValue) (operand : Operand) → OperandAims layout items (Some operand) → is_bad_sender items (Some operand) p ≡ false
    → (show : Show) × (operand_shown layout p operand ≡ Some show)
operand_is layout items p (o.Reference reference) a h = (s.Item a.place, rw (source_is layout items p reference a h) refl)
operand_is layout items p (o.Constant constant) a h = let shown = is_there (constant_shown constant p) (constant_is constant p h) in (s.Text shown.0, ap as_text shown.1)

-- neither is refused
pub content_is : (layout : Layout) (items : List DataItem) (p : PictureValue) (from : Option Operand) (to using : Option Reference) (otherwise : Show)
    → OperandAims layout items from → OptionAims layout items to → OptionAims layout items using
    → is_bad_sender items from p ≡ false → is_bad_receiver items p to ≡ false → is_bad_both_ways items p using ≡ false → (is_some using && (is_some from || is_some to)) ≡ false
    → is_some (content_by layout p from to using otherwise) ≡ true
content_is layout items p None None None otherwise a b u h k l over = refl
content_is layout items p (Some operand) None None otherwise a b u h k l over = let shown = operand_is layout items p operand a h in rw shown.1 refl
content_is layout items p (Some operand) (Some reference) None otherwise a b u h k l over =
    let shown = operand_is layout items p operand a h in rw (shown.1, sink_is layout items p reference b k) refl
content_is layout items p None (Some reference) None otherwise a b u h k l over = rw (sink_is layout items p reference b k) refl
content_is layout items p None None (Some reference) otherwise a b u h k l over =
    let parts = neither (is_bad_move (picture_found items reference) (Some p)) (is_bad_move (Some p) (picture_found items reference)) l in
    rw (source_is layout items p reference u parts.0, sink_is layout items p reference u parts.1) refl
content_is layout items p (Some operand) to (Some reference) otherwise a b u h k l over = cc over
content_is layout items p None (Some first) (Some reference) otherwise a b u h k l over = cc over

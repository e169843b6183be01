-- Reason 6 on screens: what is of the wrong kind there.
use Rattle.std.specs.Prelude.{ℕ, ◌==◌, nat_le, nat_lt, Bool, false, not, ◌&&◌, ◌||◌, if◌then◌else◌, List, length, map, Option, Some, None, is_some}
use Rattle.std.specs.List.{list_any}
use Rattle.cob_base.specs.declared.screen_entries.ScreenClause.{ScreenClause}
use Rattle.cob_base.specs.declared.screen_entries.ScreenMark.TheVariants.{Highlight, Lowlight}
use Rattle.cob_base.specs.declared.operands.Reference.{Reference}
use Rattle.cob_base.specs.declared.operands.Constant.{Constant}
use Rattle.cob_base.specs.declared.operands.Number.{Number}
use Rattle.cob_base.specs.declared.operands.Constant.TheVariants as c
use Rattle.cob_base.specs.declared.operands.Operand.{Operand}
use Rattle.cob_base.specs.declared.operands.Operand.TheVariants as o
use Rattle.picture_rule.specs.Picture.{PictureValue, plain, number}
use Rattle.picture_rule.specs.declared.kind.PictureKind.TheVariants.{Alphanumeric}
use Rattle.cob_value.specs.Moves.{may_move, may_fill}
use Rattle.data_layout.specs.Faults.{level_fits}
use Rattle.entry_clauses.specs.Clauses.{sender, receiver, both_ways, shown_text, screen_picture_text, foreground, background, is_of_screen_kind}
use Rattle.entry_clauses.specs.declared.screen_clauses.ScreenClauseKind.TheVariants.{Mark}
use Rattle.data_names.specs.Items.{DataItem}
use Rattle.entry_clauses.specs.ScreenItems.{ScreenItem}
use Rattle.data_names.specs.Spots.{Spot}
use Rattle.name_rules.specs.Mentions.{is_subscripted, picture_found, references_of_screen}

-- on a screen level 77 never stands
abbrev pub has_bad_screen_level : Spot ScreenItem → Bool
has_bad_screen_level spot = not (level_fits (map (λ item. item.row) spot.before) spot.item.row) || (spot.item.row.level == 77)

-- whether an item may be moved into another, where both pictures are known
abbrev pub is_bad_move : Option PictureValue → Option PictureValue → Bool
is_bad_move None to = false
is_bad_move (Some from) None = false
is_bad_move (Some from) (Some to) = not (may_move from to)

-- a number literal has 1 to 18 digits, of which 6 at most stand after the point
abbrev pub is_literal : Number → Bool
is_literal n = nat_lt 0 n.digits && nat_le n.digits 18 && nat_le n.decimals 6 && nat_le n.decimals n.digits

-- A text stands as an alphanumeric item, a number as a numeric one. A text of more bytes than a picture may have fits none, nor does a
-- number that no literal writes.
abbrev pub is_bad_constant : Constant → PictureValue → Bool
is_bad_constant (c.Text text) to = nat_lt 9999 (length text) || not (may_move (plain Alphanumeric (length text)) to)
is_bad_constant (c.Number one) to = not (is_literal one) || not (may_move (number one.digits one.decimals one.signed) to)
is_bad_constant (c.Figurative figure) to = not (may_fill figure to)

abbrev pub is_bad_sender : List DataItem → Option Operand → PictureValue → Bool
is_bad_sender items None to = false
is_bad_sender items (Some (o.Reference reference)) to = is_bad_move (picture_found items reference) (Some to)
is_bad_sender items (Some (o.Constant constant)) to = is_bad_constant constant to

abbrev pub is_bad_receiver : List DataItem → PictureValue → Option Reference → Bool
is_bad_receiver items from None = false
is_bad_receiver items from (Some reference) = is_bad_move (Some from) (picture_found items reference)

abbrev pub is_bad_both_ways : List DataItem → PictureValue → Option Reference → Bool
is_bad_both_ways items p None = false
is_bad_both_ways items p (Some reference) =
    is_bad_move (picture_found items reference) (Some p) || is_bad_move (Some p) (picture_found items reference)

-- FROM is moved into the screen's picture, TO out of it, and USING both ways. A picture that is refused is not judged.
abbrev pub has_bad_move : List DataItem → ScreenItem → Bool
has_bad_move items item = if item.signed then false else moves_badly item.picture
  where
    moves_badly : Option PictureValue → Bool
    moves_badly None = false
    moves_badly (Some p) =
        is_bad_sender items (sender item.entry.clauses) p || is_bad_receiver items p (receiver item.entry.clauses)
        || is_bad_both_ways items p (both_ways item.entry.clauses)

abbrev pub is_no_colour : Option ℕ → Bool
is_no_colour None = false
is_no_colour (Some colour) = nat_lt 7 colour

-- some of FROM, TO and USING is written
abbrev pub is_tied : ScreenItem → Bool
is_tied item = is_some (sender item.entry.clauses) || is_some (receiver item.entry.clauses) || is_some (both_ways item.entry.clauses)

abbrev pub has_picture_clause : ScreenItem → Bool
has_picture_clause item = is_some (screen_picture_text item.entry.clauses)

abbrev pub has_text_clause : ScreenItem → Bool
has_text_clause item = is_some (shown_text item.entry.clauses)

-- a group with PICTURE, VALUE, FROM, TO or USING
abbrev pub is_full_group : ScreenItem → Bool
is_full_group item = item.row.group && (has_picture_clause item || has_text_clause item || is_tied item)

-- PICTURE with none of FROM, TO and USING, or one of these without PICTURE
abbrev pub is_half : ScreenItem → Bool
is_half item = (has_picture_clause item && not (is_tied item)) || (not (has_picture_clause item) && is_tied item)

-- VALUE with PICTURE, or USING with FROM or TO
abbrev pub is_overfull : ScreenItem → Bool
is_overfull item =
    (has_text_clause item && has_picture_clause item)
    || (is_some (both_ways item.entry.clauses) && (is_some (sender item.entry.clauses) || is_some (receiver item.entry.clauses)))

abbrev pub has_bad_contents : ScreenItem → Bool
has_bad_contents item = is_full_group item || is_half item || is_overfull item

abbrev pub has_two_lights : List ScreenClause → Bool
has_two_lights clauses = list_any (is_of_screen_kind (Mark Highlight)) clauses && list_any (is_of_screen_kind (Mark Lowlight)) clauses

-- HIGHLIGHT with LOWLIGHT, a colour that is not 0 to 7, and a subscript
abbrev pub has_bad_clauses : ScreenItem → Bool
has_bad_clauses item =
    has_two_lights item.entry.clauses || is_no_colour (foreground item.entry.clauses) || is_no_colour (background item.entry.clauses)
    || list_any is_subscripted (references_of_screen item.entry)

abbrev pub is_screen_of_wrong_kind : List DataItem → Spot ScreenItem → Bool
is_screen_of_wrong_kind items spot =
    has_bad_screen_level spot || spot.item.row.twice || has_bad_contents spot.item || has_bad_clauses spot.item || has_bad_move items spot.item

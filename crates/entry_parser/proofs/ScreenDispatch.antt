-- At which words the clauses of screen description entries open.
use Rattle.std.proofs.Common.{◌≡◌, [], ◌∷◌, refl}
use Rattle.cob_base.specs.declared.keywords.Keyword.TheVariants as k
use Rattle.cob_base.specs.declared.tokens.Token.TheVariants.{Key}
use Rattle.cob_base.specs.Form.Form.{some}
use Rattle.cob_base.specs.Form.{Words, opens}
use Rattle.cob_base.specs.Phrases.{key, noise, same_key, int, reference, operand}
use Rattle.cob_base.specs.DataEntries.{picture}
use Rattle.cob_base.specs.ScreenEntries.{blank, erase, position, line_clause, column, value, picture_clause, from, to, using_item, screen_mark, foreground, background, outside_screen, screen_clause}
use Rattle.phrase_parser.specs.Reading.{read, is_read}

pub opens_blank_is : (w : Words) → opens blank w ≡ is_read (read blank w)
unfolding blank same_key
opens_blank_is (Key k.Blank ∷ Key k.Line ∷ w) = refl
opens_blank_is (Key k.Blank ∷ Key k.Screen ∷ w) = refl
opens_blank_is (Key k.Blank ∷ _) = refl
opens_blank_is _ = refl

pub opens_erase_is : (w : Words) → opens erase w ≡ is_read (read erase w)
unfolding erase same_key
opens_erase_is (Key k.Erase ∷ Key k.Eol ∷ w) = refl
opens_erase_is (Key k.Erase ∷ Key k.Eos ∷ w) = refl
opens_erase_is (Key k.Erase ∷ _) = refl
opens_erase_is _ = refl

pub opens_line_clause_is : (w : Words) → opens line_clause w ≡ opens (key k.Line) w
unfolding line_clause noise position int
opens_line_clause_is [] = refl
opens_line_clause_is (v ∷ w) = refl

pub opens_column_is : (w : Words) → opens column w ≡ opens (key k.Column) w
unfolding column noise position int
opens_column_is [] = refl
opens_column_is (v ∷ w) = refl

pub opens_value_is : (w : Words) → opens value w ≡ opens (key k.Value) w
unfolding value noise
opens_value_is [] = refl
opens_value_is (v ∷ w) = refl

pub opens_picture_clause_is : (w : Words) → opens picture_clause w ≡ opens (key k.Picture) w
unfolding picture_clause picture noise
opens_picture_clause_is [] = refl
opens_picture_clause_is (v ∷ w) = refl

pub opens_from_is : (w : Words) → opens from w ≡ opens (key k.From) w
unfolding from operand
opens_from_is [] = refl
opens_from_is (v ∷ w) = refl

pub opens_to_is : (w : Words) → opens to w ≡ opens (key k.To) w
unfolding to reference
opens_to_is [] = refl
opens_to_is (v ∷ w) = refl

pub opens_using_item_is : (w : Words) → opens using_item w ≡ opens (key k.Using) w
unfolding using_item reference
opens_using_item_is [] = refl
opens_using_item_is (v ∷ w) = refl

pub opens_foreground_is : (w : Words) → opens foreground w ≡ opens (key k.ForegroundColor) w
unfolding foreground noise int
opens_foreground_is [] = refl
opens_foreground_is (v ∷ w) = refl

pub opens_background_is : (w : Words) → opens background w ≡ opens (key k.BackgroundColor) w
unfolding background noise int
opens_background_is [] = refl
opens_background_is (v ∷ w) = refl

pub opens_screen_mark_is : (w : Words) → opens screen_mark w ≡ is_read (read screen_mark w)
unfolding screen_mark
opens_screen_mark_is (Key k.Auto ∷ w) = refl
opens_screen_mark_is (Key k.Blink ∷ w) = refl
opens_screen_mark_is (Key k.Full ∷ w) = refl
opens_screen_mark_is (Key k.Highlight ∷ w) = refl
opens_screen_mark_is (Key k.Lowlight ∷ w) = refl
opens_screen_mark_is (Key k.Required ∷ w) = refl
opens_screen_mark_is (Key k.ReverseVideo ∷ w) = refl
opens_screen_mark_is (Key k.Secure ∷ w) = refl
opens_screen_mark_is (Key k.Underline ∷ w) = refl
opens_screen_mark_is _ = refl

pub opens_outside_is : (w : Words) → opens outside_screen w ≡ is_read (read outside_screen w)
unfolding outside_screen
opens_outside_is (Key k.Global ∷ w) = refl
opens_outside_is (Key k.Occurs ∷ w) = refl
opens_outside_is (Key k.OutsideScreenWord ∷ w) = refl
opens_outside_is _ = refl

pub opens_screen_clauses_is : (w : Words) → opens screen_clause w ≡ opens (some screen_clause) w
unfolding screen_clause
opens_screen_clauses_is w = refl

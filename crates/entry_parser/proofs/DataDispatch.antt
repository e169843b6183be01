-- At which words the clauses of data description entries open.
use Rattle.std.proofs.Common.{◌≡◌, [], ◌∷◌, refl}
use Rattle.cob_base.specs.declared.line.Line.{Line}
use Rattle.cob_base.specs.declared.keywords.Keyword.TheVariants as k
use Rattle.cob_base.specs.declared.keywords.Verb.TheVariants as verbs
use Rattle.cob_base.specs.declared.tokens.Token.TheVariants.{Key, Verb}
use Rattle.cob_base.specs.Form.Form.{some}
use Rattle.cob_base.specs.Form.{Words, opens}
use Rattle.cob_base.specs.Phrases.{key, noise, same_key, int, constant}
use Rattle.cob_base.specs.DataEntries.{level, picture, picture_clause, outside_item, usage_words, display_or_outside, usage, value, occurs, sign_words, side, sign_side, separate, sign_clause, item_clause, item, value_is, through, value_range}
use Rattle.phrase_parser.specs.Reading.{read, is_read}

pub opens_picture_is : (w : Words) → opens picture_clause w ≡ opens (key k.Picture) w
unfolding picture_clause picture noise
opens_picture_is [] = refl
opens_picture_is (v ∷ w) = refl

pub opens_usage_words_is : (w : Words) → opens usage_words w ≡ is_read (read usage_words w)
unfolding usage_words noise same_key
opens_usage_words_is (Key k.Usage ∷ Key k.Is ∷ w) = refl
opens_usage_words_is (Key k.Usage ∷ w) = refl
opens_usage_words_is _ = refl

pub opens_usage_is : (w : Words) → opens usage w ≡ is_read (read usage w)
unfolding usage usage_words display_or_outside outside_item noise same_key
opens_usage_is (Key k.Blank ∷ w) = refl
opens_usage_is (Key k.Global ∷ w) = refl
opens_usage_is (Key k.Indexed ∷ w) = refl
opens_usage_is (Key k.OutsideItemWord ∷ w) = refl
opens_usage_is (Key k.To ∷ w) = refl
opens_usage_is (Key k.Usage ∷ Key k.Blank ∷ w) = refl
opens_usage_is (Key k.Usage ∷ Key k.Global ∷ w) = refl
opens_usage_is (Key k.Usage ∷ Key k.Indexed ∷ w) = refl
opens_usage_is (Key k.Usage ∷ Key k.Is ∷ Key k.Blank ∷ w) = refl
opens_usage_is (Key k.Usage ∷ Key k.Is ∷ Key k.Global ∷ w) = refl
opens_usage_is (Key k.Usage ∷ Key k.Is ∷ Key k.Indexed ∷ w) = refl
opens_usage_is (Key k.Usage ∷ Key k.Is ∷ Key k.OutsideItemWord ∷ w) = refl
opens_usage_is (Key k.Usage ∷ Key k.Is ∷ Key k.To ∷ w) = refl
opens_usage_is (Key k.Usage ∷ Key k.Is ∷ Verb verbs.Display line ∷ w) = refl
opens_usage_is (Key k.Usage ∷ Key k.Is ∷ _) = refl
opens_usage_is (Key k.Usage ∷ Key k.OutsideItemWord ∷ w) = refl
opens_usage_is (Key k.Usage ∷ Key k.To ∷ w) = refl
opens_usage_is (Key k.Usage ∷ Verb verbs.Display line ∷ w) = refl
opens_usage_is (Key k.Usage ∷ _) = refl
opens_usage_is (Verb verbs.Display line ∷ w) = refl
opens_usage_is _ = refl

pub opens_value_is : (w : Words) → opens value w ≡ opens (key k.Value) w
unfolding value noise constant
opens_value_is [] = refl
opens_value_is (v ∷ w) = refl

pub opens_occurs_is : (w : Words) → opens occurs w ≡ opens (key k.Occurs) w
unfolding occurs int
opens_occurs_is [] = refl
opens_occurs_is (v ∷ w) = refl

pub opens_sign_words_is : (w : Words) → opens sign_words w ≡ is_read (read sign_words w)
unfolding sign_words noise same_key
opens_sign_words_is (Key k.Sign ∷ Key k.Is ∷ w) = refl
opens_sign_words_is (Key k.Sign ∷ w) = refl
opens_sign_words_is _ = refl

pub opens_sign_is : (w : Words) → opens sign_clause w ≡ is_read (read sign_side w)
unfolding sign_clause sign_side sign_words side separate noise same_key
opens_sign_is (Key k.Leading ∷ w) = refl
opens_sign_is (Key k.Sign ∷ Key k.Is ∷ Key k.Leading ∷ w) = refl
opens_sign_is (Key k.Sign ∷ Key k.Is ∷ Key k.Trailing ∷ w) = refl
opens_sign_is (Key k.Sign ∷ Key k.Is ∷ _) = refl
opens_sign_is (Key k.Sign ∷ Key k.Leading ∷ w) = refl
opens_sign_is (Key k.Sign ∷ Key k.Trailing ∷ w) = refl
opens_sign_is (Key k.Sign ∷ _) = refl
opens_sign_is (Key k.Trailing ∷ w) = refl
opens_sign_is _ = refl

pub opens_separate_is : (w : Words) → opens separate w ≡ is_read (read separate w)
unfolding separate noise same_key
opens_separate_is (Key k.Separate ∷ Key k.Character ∷ w) = refl
opens_separate_is (Key k.Separate ∷ w) = refl
opens_separate_is _ = refl

pub opens_item_clauses_is : (w : Words) → opens item_clause w ≡ opens (some item_clause) w
unfolding item_clause
opens_item_clauses_is w = refl

pub opens_item_is : (line : Line) (w : Words) → opens (item line) w ≡ opens level w
unfolding item level
opens_item_is line w = refl

pub opens_value_is_words_is : (w : Words) → opens value_is w ≡ opens (key k.Value) w
unfolding value_is noise
opens_value_is_words_is [] = refl
opens_value_is_words_is (v ∷ w) = refl

pub opens_through_is : (w : Words) → opens through w ≡ opens (key k.Through) w
unfolding through constant
opens_through_is [] = refl
opens_through_is (v ∷ w) = refl

pub opens_value_range_is : (w : Words) → opens value_range w ≡ opens constant w
unfolding value_range constant
opens_value_range_is w = refl

pub opens_value_ranges_is : (w : Words) → opens value_range w ≡ opens (some value_range) w
unfolding value_range constant
opens_value_ranges_is w = refl

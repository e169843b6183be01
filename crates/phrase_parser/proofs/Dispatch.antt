-- What the next words choose is what the grammar chooses there.
use Rattle.std.proofs.Common.{◌≡◌, ℕ, zero, suc, Bool, [], ◌∷◌, true, false, refl}
use Rattle.std.specs.Prelude.{◌||◌, ◌&&◌}
use Rattle.cob_base.specs.declared.keywords.Keyword.TheVariants as k
use Rattle.cob_base.specs.declared.keywords.Verb.TheVariants as verbs
use Rattle.cob_base.specs.declared.keywords.Mark.TheVariants as marks
use Rattle.cob_base.specs.declared.tokens.Token.TheVariants.{Key, Verb, Text, Number, Mark as Sign}
use Rattle.cob_base.specs.Form.Form.{optional, some}
use Rattle.cob_base.specs.Form.{Words, is_there, opens}
use Rattle.cob_base.specs.Phrases.{key, noise, same_key, same_mark, name, int, qualifier, offset, subscript, subscripted, reference_within, reference, figurative_of, figurative, constant_within, constant, operand_within, operand}
use Rattle.cob_base.specs.FileEntries.{sharing_within, sharing}
use Rattle.phrase_parser.specs.Reading.{read}
use Rattle.phrase_parser.specs.Choices.{offset_at, subscripted_at, constant_at, opens_constant_at, sharing_at}

pub opens_qualifier_is : (w : Words) → opens qualifier w ≡ opens (key k.Of) w
unfolding qualifier name
opens_qualifier_is [] = refl
opens_qualifier_is (v ∷ w) = refl

pub opens_qualifiers_is : (w : Words) → opens qualifier w ≡ opens (some qualifier) w
unfolding qualifier name
opens_qualifiers_is [] = refl
opens_qualifiers_is (v ∷ w) = refl

pub offset_at_is : (w : Words) → offset_at w ≡ read (optional offset) w
unfolding offset_at offset int same_mark
offset_at_is (Sign marks.Plus ∷ w) = refl
offset_at_is (Sign marks.Minus ∷ w) = refl
offset_at_is _ = refl

pub subscripted_at_is : (d : ℕ) (w : Words) → subscripted_at d w ≡ read (optional (subscripted d)) w
unfolding subscripted_at subscripted subscript same_mark
subscripted_at_is zero (Sign marks.LeftParenthesis ∷ w) = refl
subscripted_at_is (suc d) (Sign marks.LeftParenthesis ∷ w) = refl
subscripted_at_is zero _ = refl
subscripted_at_is (suc d) _ = refl

pub opens_reference_is : (d : ℕ) (w : Words) → opens (reference d) w ≡ opens name w
unfolding reference reference_within name
opens_reference_is d w = refl

pub constant_at_is : (w : Words) → constant_at w ≡ read constant w
unfolding constant_at constant constant_within figurative
constant_at_is (Text text ∷ w) = refl
constant_at_is (Number number ∷ w) = refl
constant_at_is (Key have ∷ w) = refl
constant_at_is _ = refl

and-true : (b : Bool) → (b && true) ≡ b
and-true true = refl
and-true false = refl

pub opens_constant_is : (w : Words) → opens constant w ≡ opens_constant_at w
unfolding opens_constant_at constant constant_within figurative
opens_constant_is (Text text ∷ w) = refl
opens_constant_is (Number number ∷ w) = refl
opens_constant_is (Key have ∷ w) = and-true (is_there (figurative_of have))
opens_constant_is _ = refl

pub opens_operand_is : (d : ℕ) (w : Words) → opens (operand d) w ≡ (opens name w || opens constant w)
unfolding operand operand_within reference reference_within constant name
opens_operand_is d w = refl

pub sharing_at_is : (w : Words) → sharing_at w ≡ read sharing w
unfolding sharing_at sharing sharing_within noise same_key
sharing_at_is (Key k.All ∷ w) = refl
sharing_at_is (Key k.No ∷ w) = refl
sharing_at_is (Verb verbs.Read line ∷ Key k.Only ∷ w) = refl
sharing_at_is (Verb verbs.Read line ∷ _) = refl
sharing_at_is _ = refl

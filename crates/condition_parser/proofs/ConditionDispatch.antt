-- At which words the parts of conditions open, and what they are there.
use Rattle.std.proofs.Common.{◌≡◌, ℕ, zero, suc, [], ◌∷◌, Ok, Err, Bool, true, false, refl, ◌∙◌, sym}
use Rattle.std.specs.Prelude.{◌||◌}
use Rattle.cob_base.specs.declared.keywords.Keyword.TheVariants as k
use Rattle.cob_base.specs.declared.keywords.Mark.TheVariants as marks
use Rattle.cob_base.specs.declared.tokens.Token.TheVariants.{Key, Mark as Sign}
use Rattle.cob_base.specs.declared.conditions.Cond.{Cond}
use Rattle.cob_base.specs.declared.conditions.Relation.{Relation}
use Rattle.cob_base.specs.Form.Form.{some}
use Rattle.cob_base.specs.Form.{Form, Words, opens}
use Rattle.cob_base.specs.Phrases.{key, noise, same_key, same_mark, name, reference, reference_within, constant, operand}
use Rattle.cob_base.specs.Conditions.{equal_to, or_equal_to, less_or_greater, relation_mark, relation_within, relation, relation_words, numeric_class, compares, of_reference, of_constant, single, and_single, all_of, or_all_of, cond, parentheses}
use Rattle.phrase_parser.specs.Reading.{Outcome, ◌>>=◌, read, is_read}
use Rattle.condition_parser.specs.Choices.{condition_parentheses_at}

pub opens_or_equal_to_is : (w : Words) → opens or_equal_to w ≡ is_read (read or_equal_to w)
unfolding or_equal_to equal_to noise same_key
opens_or_equal_to_is (Key k.Or ∷ Key k.Equal ∷ Key k.To ∷ w) = refl
opens_or_equal_to_is (Key k.Or ∷ Key k.Equal ∷ _) = refl
opens_or_equal_to_is (Key k.Or ∷ _) = refl
opens_or_equal_to_is _ = refl

pub opens_equal_to_is : (w : Words) → opens equal_to w ≡ is_read (read equal_to w)
unfolding equal_to noise same_key
opens_equal_to_is (Key k.Equal ∷ Key k.To ∷ w) = refl
opens_equal_to_is (Key k.Equal ∷ _) = refl
opens_equal_to_is _ = refl

pub opens_relation_mark_is : (w : Words) → opens relation_mark w ≡ is_read (read relation_mark w)
unfolding relation_mark
opens_relation_mark_is (Sign marks.Equal ∷ w) = refl
opens_relation_mark_is (Sign marks.Less ∷ w) = refl
opens_relation_mark_is (Sign marks.Greater ∷ w) = refl
opens_relation_mark_is (Sign marks.LessOrEqual ∷ w) = refl
opens_relation_mark_is (Sign marks.GreaterOrEqual ∷ w) = refl
opens_relation_mark_is _ = refl

pub opens_numeric_class_is : (w : Words) → opens numeric_class w ≡ is_read (read numeric_class w)
unfolding numeric_class noise same_key
opens_numeric_class_is (Key k.Is ∷ Key k.Not ∷ Key k.Numeric ∷ w) = refl
opens_numeric_class_is (Key k.Is ∷ Key k.Not ∷ _) = refl
opens_numeric_class_is (Key k.Is ∷ Key k.Numeric ∷ w) = refl
opens_numeric_class_is (Key k.Is ∷ _) = refl
opens_numeric_class_is (Key k.Not ∷ Key k.Numeric ∷ w) = refl
opens_numeric_class_is (Key k.Not ∷ _) = refl
opens_numeric_class_is (Key k.Numeric ∷ w) = refl
opens_numeric_class_is _ = refl

opens-relation-is : (w : Words) → opens relation w ≡ is_read (read relation w)
unfolding relation relation_within relation_mark equal_to less_or_greater or_equal_to noise same_key
opens-relation-is (Sign marks.Equal ∷ w) = refl
opens-relation-is (Sign marks.Less ∷ w) = refl
opens-relation-is (Sign marks.Greater ∷ w) = refl
opens-relation-is (Sign marks.LessOrEqual ∷ w) = refl
opens-relation-is (Sign marks.GreaterOrEqual ∷ w) = refl
opens-relation-is (Key k.Equal ∷ Key k.To ∷ w) = refl
opens-relation-is (Key k.Equal ∷ _) = refl
opens-relation-is (Key k.Less ∷ Key k.Than ∷ Key k.Or ∷ Key k.Equal ∷ Key k.To ∷ w) = refl
opens-relation-is (Key k.Less ∷ Key k.Than ∷ Key k.Or ∷ Key k.Equal ∷ _) = refl
opens-relation-is (Key k.Less ∷ Key k.Than ∷ Key k.Or ∷ _) = refl
opens-relation-is (Key k.Less ∷ Key k.Than ∷ _) = refl
opens-relation-is (Key k.Less ∷ Key k.Or ∷ Key k.Equal ∷ Key k.To ∷ w) = refl
opens-relation-is (Key k.Less ∷ Key k.Or ∷ Key k.Equal ∷ _) = refl
opens-relation-is (Key k.Less ∷ Key k.Or ∷ _) = refl
opens-relation-is (Key k.Less ∷ _) = refl
opens-relation-is (Key k.Greater ∷ Key k.Than ∷ Key k.Or ∷ Key k.Equal ∷ Key k.To ∷ w) = refl
opens-relation-is (Key k.Greater ∷ Key k.Than ∷ Key k.Or ∷ Key k.Equal ∷ _) = refl
opens-relation-is (Key k.Greater ∷ Key k.Than ∷ Key k.Or ∷ _) = refl
opens-relation-is (Key k.Greater ∷ Key k.Than ∷ _) = refl
opens-relation-is (Key k.Greater ∷ Key k.Or ∷ Key k.Equal ∷ Key k.To ∷ w) = refl
opens-relation-is (Key k.Greater ∷ Key k.Or ∷ Key k.Equal ∷ _) = refl
opens-relation-is (Key k.Greater ∷ Key k.Or ∷ _) = refl
opens-relation-is (Key k.Greater ∷ _) = refl
opens-relation-is _ = refl

is-read-bind : {A B : Type 0} (r : Outcome A) (g : A × Words → B × Words) → is_read (r >>= λ x. Ok (g x)) ≡ is_read r
is-read-bind (Ok x) g = refl
is-read-bind (Err e) g = refl

or-false : (b : Bool) → (b || false) ≡ b
or-false true = refl
or-false false = refl

-- no relation begins with IS or NOT
not-at-is : (w : Words) → opens relation (Key k.Is ∷ w) ≡ false
unfolding relation relation_within relation_mark equal_to less_or_greater or_equal_to noise same_key
not-at-is w = refl

not-at-not : (w : Words) → opens relation (Key k.Not ∷ w) ≡ false
unfolding relation relation_within relation_mark equal_to less_or_greater or_equal_to noise same_key
not-at-not w = refl

at-end : opens relation_words [] ≡ is_read (read relation_words [])
unfolding relation_words relation relation_within relation_mark equal_to less_or_greater or_equal_to noise same_key
at-end = refl

with-not : (negated : Bool) → Relation × Words → (Bool × Relation) × Words
with-not negated y = ((negated, y.0), y.1)

opens-relation-words : (w : Words) → opens relation_words w ≡ is_read (read relation_words w)
unfolding relation_words noise same_key with-not
opens-relation-words (Key k.Is ∷ Key k.Not ∷ w) = rw (not-at-is (Key k.Not ∷ w), not-at-not w) (opens-relation-is w ∙ sym (is-read-bind (read relation w) (with-not true)))
opens-relation-words (Key k.Is ∷ w) = rw (not-at-is w, or-false (opens relation w)) (opens-relation-is w ∙ sym (is-read-bind (read relation w) (with-not false)))
opens-relation-words (Key k.Not ∷ w) = rw (not-at-not w, or-false (opens relation w)) (opens-relation-is w ∙ sym (is-read-bind (read relation w) (with-not true)))
opens-relation-words [] = at-end
opens-relation-words (v ∷ w) = rw (or-false (opens relation (v ∷ w)), or-false (opens relation (v ∷ w))) (opens-relation-is (v ∷ w) ∙ sym (is-read-bind (read relation (v ∷ w)) (with-not false)))

pub opens_compares_is : (d : ℕ) (w : Words) → opens (compares d) w ≡ is_read (read relation_words w)
unfolding compares relation_words relation operand
opens_compares_is d w = opens-relation-words w

pub opens_of_reference_is : (d : ℕ) (w : Words) → opens (of_reference d) w ≡ opens name w
unfolding of_reference reference reference_within name
opens_of_reference_is d w = refl

pub opens_of_constant_is : (d : ℕ) (w : Words) → opens (of_constant d) w ≡ opens constant w
unfolding of_constant constant
opens_of_constant_is d w = refl

module _ (d : ℕ) (inside : Form true Cond) where
  pub opens_and_single_is : (w : Words) → opens (and_single d inside) w ≡ opens (key k.And) w
  unfolding and_single single
  opens_and_single_is [] = refl
  opens_and_single_is (v ∷ w) = refl

  pub opens_more_and_is : (w : Words) → opens (some (and_single d inside)) w ≡ opens (key k.And) w
  unfolding and_single single
  opens_more_and_is [] = refl
  opens_more_and_is (v ∷ w) = refl

  pub opens_or_all_of_is : (w : Words) → opens (or_all_of d inside) w ≡ opens (key k.Or) w
  unfolding or_all_of all_of
  opens_or_all_of_is [] = refl
  opens_or_all_of_is (v ∷ w) = refl

  pub opens_more_or_is : (w : Words) → opens (some (or_all_of d inside)) w ≡ opens (key k.Or) w
  unfolding or_all_of all_of
  opens_more_or_is [] = refl
  opens_more_or_is (v ∷ w) = refl

pub parentheses_at_is : (d : ℕ) (w : Words) → condition_parentheses_at d w ≡ read (parentheses d) w
unfolding condition_parentheses_at parentheses cond same_mark
parentheses_at_is zero (Sign marks.LeftParenthesis ∷ w) = refl
parentheses_at_is (suc d) (Sign marks.LeftParenthesis ∷ w) = refl
parentheses_at_is zero _ = refl
parentheses_at_is (suc d) _ = refl

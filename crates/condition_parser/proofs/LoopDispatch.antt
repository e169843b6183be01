-- At which words the parts of loops open.
use Rattle.std.proofs.Common.{◌≡◌, ℕ, [], ◌∷◌, refl}
use Rattle.std.specs.Prelude.{◌||◌}
use Rattle.cob_base.specs.declared.keywords.Keyword.TheVariants as k
use Rattle.cob_base.specs.declared.tokens.Token.TheVariants.{Key}
use Rattle.cob_base.specs.Form.{Words, opens}
use Rattle.cob_base.specs.Phrases.{key, noise, same_key, reference, operand}
use Rattle.cob_base.specs.StatementPhrases.{test, times, varying, until, repeated}
use Rattle.cob_base.specs.Conditions.{cond}
use Rattle.phrase_parser.specs.Reading.{read, is_read}

pub opens_test_is : (w : Words) → opens test w ≡ is_read (read test w)
unfolding test noise same_key
opens_test_is (Key k.Test ∷ Key k.After ∷ w) = refl
opens_test_is (Key k.Test ∷ Key k.Before ∷ w) = refl
opens_test_is (Key k.Test ∷ _) = refl
opens_test_is (Key k.With ∷ Key k.Test ∷ Key k.After ∷ w) = refl
opens_test_is (Key k.With ∷ Key k.Test ∷ Key k.Before ∷ w) = refl
opens_test_is (Key k.With ∷ Key k.Test ∷ _) = refl
opens_test_is (Key k.With ∷ _) = refl
opens_test_is _ = refl

module _ (d : ℕ) where
  pub opens_varying_is : (w : Words) → opens (varying d) w ≡ opens (key k.Varying) w
  unfolding varying reference
  opens_varying_is [] = refl
  opens_varying_is (v ∷ w) = refl

  pub opens_times_is : (w : Words) → opens (times d) w ≡ opens (operand d) w
  unfolding times operand
  opens_times_is w = refl

  pub opens_until_is : (w : Words) → opens (until d) w ≡ (is_read (read test w) || opens (key k.Varying) w || opens (key k.Until) w)
  unfolding until varying reference cond test noise same_key
  opens_until_is (Key k.Until ∷ w) = refl
  opens_until_is (Key k.Varying ∷ w) = refl
  opens_until_is (Key k.Test ∷ Key k.After ∷ w) = refl
  opens_until_is (Key k.Test ∷ Key k.Before ∷ w) = refl
  opens_until_is (Key k.Test ∷ _) = refl
  opens_until_is (Key k.With ∷ Key k.Test ∷ Key k.After ∷ w) = refl
  opens_until_is (Key k.With ∷ Key k.Test ∷ Key k.Before ∷ w) = refl
  opens_until_is (Key k.With ∷ Key k.Test ∷ _) = refl
  opens_until_is (Key k.With ∷ _) = refl
  opens_until_is _ = refl

  pub opens_repeated_is : (w : Words) → opens (repeated d) w ≡ (opens (times d) w || opens (until d) w)
  unfolding repeated
  opens_repeated_is w = refl

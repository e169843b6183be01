-- At which words the phrases on locks open.
use Rattle.std.proofs.Common.{◌≡◌, ℕ, Bool, true, false, [], ◌∷◌, refl}
use Rattle.std.specs.Prelude.{◌||◌}
use Rattle.cob_base.specs.declared.keywords.Keyword.TheVariants as k
use Rattle.cob_base.specs.declared.tokens.Token.TheVariants.{Key}
use Rattle.cob_base.specs.Form.{Words, opens}
use Rattle.cob_base.specs.Phrases.{key, noise, same_key, operand}
use Rattle.cob_base.specs.StatementPhrases.{for_seconds, times_or_seconds, retry_rest, retry, advancing, ignoring, locking, no_lock, lock_or_not, lock}
use Rattle.phrase_parser.specs.Reading.{read, is_read}

pub opens_advancing_is : (w : Words) → opens advancing w ≡ is_read (read advancing w)
unfolding advancing noise same_key
opens_advancing_is (Key k.Advancing ∷ Key k.Lock ∷ w) = refl
opens_advancing_is (Key k.Advancing ∷ Key k.On ∷ Key k.Lock ∷ w) = refl
opens_advancing_is (Key k.Advancing ∷ Key k.On ∷ _) = refl
opens_advancing_is (Key k.Advancing ∷ _) = refl
opens_advancing_is _ = refl

pub opens_ignoring_is : (w : Words) → opens ignoring w ≡ is_read (read ignoring w)
unfolding ignoring same_key
opens_ignoring_is (Key k.Ignoring ∷ Key k.Lock ∷ w) = refl
opens_ignoring_is (Key k.Ignoring ∷ _) = refl
opens_ignoring_is _ = refl

pub opens_no_lock_is : (w : Words) → opens no_lock w ≡ is_read (read no_lock w)
unfolding no_lock same_key
opens_no_lock_is (Key k.No ∷ Key k.Lock ∷ w) = refl
opens_no_lock_is (Key k.No ∷ _) = refl
opens_no_lock_is _ = refl

pub opens_lock_is : (w : Words) → opens lock w ≡ is_read (read lock w)
unfolding lock lock_or_not no_lock noise same_key
opens_lock_is (Key k.Lock ∷ w) = refl
opens_lock_is (Key k.No ∷ Key k.Lock ∷ w) = refl
opens_lock_is (Key k.No ∷ _) = refl
opens_lock_is (Key k.With ∷ Key k.Lock ∷ w) = refl
opens_lock_is (Key k.With ∷ Key k.No ∷ Key k.Lock ∷ w) = refl
opens_lock_is (Key k.With ∷ Key k.No ∷ _) = refl
opens_lock_is (Key k.With ∷ _) = refl
opens_lock_is _ = refl

one-of-three : (a x b y c z : Bool) → a ≡ x → b ≡ y → c ≡ z → (a || (b || c)) ≡ (x || y || z)
one-of-three true x b y c z p q r = rw (← p) refl
one-of-three false x b y c z p q r = rw (← p, ← q, ← r) refl

module _ (d : ℕ) where
  pub opens_times_or_seconds_is : (w : Words) → opens (times_or_seconds d) w ≡ opens (operand d) w
  unfolding times_or_seconds operand
  opens_times_or_seconds_is w = refl

  pub opens_for_seconds_is : (w : Words) → opens (for_seconds d) w ≡ opens (key k.For) w
  unfolding for_seconds operand
  opens_for_seconds_is [] = refl
  opens_for_seconds_is (v ∷ w) = refl

  pub opens_retry_is : (w : Words) → opens (retry d) w ≡ opens (key k.Retry) w
  unfolding retry retry_rest times_or_seconds operand
  opens_retry_is [] = refl
  opens_retry_is (v ∷ w) = refl

  pub opens_locking_is : (w : Words) → opens (locking d) w ≡ (is_read (read advancing w) || is_read (read ignoring w) || opens (key k.Retry) w)
  unfolding locking
  opens_locking_is w = one-of-three (opens advancing w) (is_read (read advancing w)) (opens ignoring w) (is_read (read ignoring w)) (opens (retry d) w) (opens (key k.Retry) w)
      (opens_advancing_is w) (opens_ignoring_is w) (opens_retry_is w)

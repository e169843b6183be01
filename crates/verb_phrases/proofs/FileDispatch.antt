-- At which words the phrases of the statements on files open.
use Rattle.std.proofs.Common.{◌≡◌, ℕ, Bool, true, false, [], ◌∷◌, refl}
use Rattle.std.specs.Prelude.{◌||◌}
use Rattle.cob_base.specs.declared.keywords.Keyword.TheVariants as k
use Rattle.cob_base.specs.declared.tokens.Token.TheVariants.{Key}
use Rattle.cob_base.specs.Form.{Words, opens}
use Rattle.cob_base.specs.FileEntries.{sharing}
use Rattle.cob_base.specs.Phrases.{key, noise, same_key, name, reference, operand}
use Rattle.cob_base.specs.Conditions.{relation}
use Rattle.cob_base.specs.StatementPhrases.{retry, mode, sharing_phrase, opened_files, outside_mode, open_phrase, direction, by_key, into, from, key_relation, place}
use Rattle.phrase_parser.specs.Reading.{read, is_read}

pub opens_direction_is : (w : Words) → opens direction w ≡ is_read (read direction w)
unfolding direction
opens_direction_is (Key k.Next ∷ w) = refl
opens_direction_is (Key k.Previous ∷ w) = refl
opens_direction_is _ = refl

pub opens_sharing_phrase_is : (w : Words) → opens sharing_phrase w ≡ opens (key k.Sharing) w
unfolding sharing_phrase sharing noise
opens_sharing_phrase_is [] = refl
opens_sharing_phrase_is (v ∷ w) = refl

or-grouped : (a b c : Bool) → (a || (b || c)) ≡ (a || b || c)
or-grouped true b c = refl
or-grouped false b c = refl

module _ (d : ℕ) where
  pub opens_opened_files_is : (w : Words) → opens (opened_files d) w ≡ is_read (read mode w)
  unfolding opened_files mode name retry sharing_phrase
  opens_opened_files_is (Key k.Input ∷ w) = refl
  opens_opened_files_is (Key k.Output ∷ w) = refl
  opens_opened_files_is (Key k.InputOutputMode ∷ w) = refl
  opens_opened_files_is _ = refl

  pub opens_open_phrase_is : (w : Words) → opens (open_phrase d) w ≡ (is_read (read mode w) || opens (key k.Extend) w)
  unfolding open_phrase outside_mode opened_files mode name retry sharing_phrase same_key
  opens_open_phrase_is (Key k.Input ∷ w) = refl
  opens_open_phrase_is (Key k.Output ∷ w) = refl
  opens_open_phrase_is (Key k.InputOutputMode ∷ w) = refl
  opens_open_phrase_is (Key k.Extend ∷ w) = refl
  opens_open_phrase_is _ = refl

  pub opens_by_key_is : (w : Words) → opens (by_key d) w ≡ opens (key k.Key) w
  unfolding by_key reference noise
  opens_by_key_is [] = refl
  opens_by_key_is (v ∷ w) = refl

  pub opens_into_is : (w : Words) → opens (into d) w ≡ opens (key k.Into) w
  unfolding into reference
  opens_into_is [] = refl
  opens_into_is (v ∷ w) = refl

  pub opens_from_is : (w : Words) → opens (from d) w ≡ opens (key k.From) w
  unfolding from operand
  opens_from_is [] = refl
  opens_from_is (v ∷ w) = refl

  pub opens_place_is : (w : Words) → opens (place d) w ≡ (opens (key k.First) w || opens (key k.Last) w || opens (key k.Key) w)
  unfolding place key_relation relation noise
  opens_place_is [] = refl
  opens_place_is (v ∷ w) = or-grouped (opens (key k.First) (v ∷ w)) (opens (key k.Last) (v ∷ w)) (opens (key k.Key) (v ∷ w))

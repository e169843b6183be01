-- At which words the phrases of statements open, and what they are there.
use Rattle.std.proofs.Common.{◌≡◌, ℕ, ◌∷◌, refl}
use Rattle.cob_base.specs.declared.keywords.Keyword.TheVariants as k
use Rattle.cob_base.specs.declared.tokens.Token.TheVariants.{Key}
use Rattle.cob_base.specs.Form.Form.{optional}
use Rattle.cob_base.specs.Form.{Words}
use Rattle.cob_base.specs.Phrases.{noise, same_key}
use Rattle.cob_base.specs.StatementPhrases.{size_words, invalid_words, end_words, exception_words, else_words, not_words, phrase}
use Rattle.cob_base.specs.Statements.{statement, statements}
use Rattle.phrase_parser.specs.Reading.{read}
use Rattle.procedure_parser.specs.Choices.{phrase_of}

module _ (d : ℕ) where
  pub on_size_error_is : (w : Words) → phrase_of d (read size_words w) w ≡ read (optional (phrase (statement d) size_words)) w
  unfolding phrase_of phrase size_words noise statement statements same_key
  on_size_error_is (Key k.On ∷ Key k.Size ∷ Key k.Error ∷ w) = refl
  on_size_error_is (Key k.On ∷ Key k.Size ∷ _) = refl
  on_size_error_is (Key k.On ∷ _) = refl
  on_size_error_is (Key k.Size ∷ Key k.Error ∷ w) = refl
  on_size_error_is (Key k.Size ∷ _) = refl
  on_size_error_is _ = refl

  pub not_on_size_error_is : (w : Words) → phrase_of d (read (not_words size_words) w) w ≡ read (optional (phrase (statement d) (not_words size_words))) w
  unfolding phrase_of phrase not_words size_words noise statement statements same_key
  not_on_size_error_is (Key k.Not ∷ Key k.On ∷ Key k.Size ∷ Key k.Error ∷ w) = refl
  not_on_size_error_is (Key k.Not ∷ Key k.On ∷ Key k.Size ∷ _) = refl
  not_on_size_error_is (Key k.Not ∷ Key k.On ∷ _) = refl
  not_on_size_error_is (Key k.Not ∷ Key k.Size ∷ Key k.Error ∷ w) = refl
  not_on_size_error_is (Key k.Not ∷ Key k.Size ∷ _) = refl
  not_on_size_error_is (Key k.Not ∷ _) = refl
  not_on_size_error_is _ = refl

  pub on_invalid_key_is : (w : Words) → phrase_of d (read invalid_words w) w ≡ read (optional (phrase (statement d) invalid_words)) w
  unfolding phrase_of phrase invalid_words noise statement statements same_key
  on_invalid_key_is (Key k.Invalid ∷ Key k.Key ∷ w) = refl
  on_invalid_key_is (Key k.Invalid ∷ _) = refl
  on_invalid_key_is _ = refl

  pub not_on_invalid_key_is : (w : Words) → phrase_of d (read (not_words invalid_words) w) w ≡ read (optional (phrase (statement d) (not_words invalid_words))) w
  unfolding phrase_of phrase not_words invalid_words noise statement statements same_key
  not_on_invalid_key_is (Key k.Not ∷ Key k.Invalid ∷ Key k.Key ∷ w) = refl
  not_on_invalid_key_is (Key k.Not ∷ Key k.Invalid ∷ _) = refl
  not_on_invalid_key_is (Key k.Not ∷ _) = refl
  not_on_invalid_key_is _ = refl

  pub on_end_is : (w : Words) → phrase_of d (read end_words w) w ≡ read (optional (phrase (statement d) end_words)) w
  unfolding phrase_of phrase end_words noise statement statements same_key
  on_end_is (Key k.At ∷ Key k.End ∷ w) = refl
  on_end_is (Key k.At ∷ _) = refl
  on_end_is (Key k.End ∷ w) = refl
  on_end_is _ = refl

  pub not_on_end_is : (w : Words) → phrase_of d (read (not_words end_words) w) w ≡ read (optional (phrase (statement d) (not_words end_words))) w
  unfolding phrase_of phrase not_words end_words noise statement statements same_key
  not_on_end_is (Key k.Not ∷ Key k.At ∷ Key k.End ∷ w) = refl
  not_on_end_is (Key k.Not ∷ Key k.At ∷ _) = refl
  not_on_end_is (Key k.Not ∷ Key k.End ∷ w) = refl
  not_on_end_is (Key k.Not ∷ _) = refl
  not_on_end_is _ = refl

  pub on_exception_is : (w : Words) → phrase_of d (read exception_words w) w ≡ read (optional (phrase (statement d) exception_words)) w
  unfolding phrase_of phrase exception_words noise statement statements same_key
  on_exception_is (Key k.On ∷ Key k.Exception ∷ w) = refl
  on_exception_is (Key k.On ∷ _) = refl
  on_exception_is (Key k.Exception ∷ w) = refl
  on_exception_is _ = refl

  pub not_on_exception_is : (w : Words) → phrase_of d (read (not_words exception_words) w) w ≡ read (optional (phrase (statement d) (not_words exception_words))) w
  unfolding phrase_of phrase not_words exception_words noise statement statements same_key
  not_on_exception_is (Key k.Not ∷ Key k.On ∷ Key k.Exception ∷ w) = refl
  not_on_exception_is (Key k.Not ∷ Key k.On ∷ _) = refl
  not_on_exception_is (Key k.Not ∷ Key k.Exception ∷ w) = refl
  not_on_exception_is (Key k.Not ∷ _) = refl
  not_on_exception_is _ = refl

  pub else_part_is : (w : Words) → phrase_of d (read else_words w) w ≡ read (optional (phrase (statement d) else_words)) w
  unfolding phrase_of phrase else_words statement statements same_key
  else_part_is (Key k.Else ∷ w) = refl
  else_part_is _ = refl

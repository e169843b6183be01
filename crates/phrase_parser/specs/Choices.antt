-- What the next words choose, by cases, as the code does.
use Rattle.std.specs.Prelude.{ℕ, zero, suc, Bool, true, false, ◌∷◌, Ok, Err, Option, Some, None}
use Rattle.cob_base.specs.declared.parse_fault.Misfit.TheVariants.{Nesting, NoFit}
use Rattle.cob_base.specs.declared.keywords.Keyword.TheVariants as k
use Rattle.cob_base.specs.declared.keywords.Mark.TheVariants as marks
use Rattle.cob_base.specs.declared.keywords.Verb.TheVariants as verbs
use Rattle.cob_base.specs.declared.file_entries.Sharing.{Sharing}
use Rattle.cob_base.specs.declared.file_entries.Sharing.TheVariants as sharings
use Rattle.cob_base.specs.declared.operands.Offset.{Offset}
use Rattle.cob_base.specs.declared.operands.Offset.TheVariants as offsets
use Rattle.cob_base.specs.declared.operands.Subscript.{Subscript}
use Rattle.cob_base.specs.declared.operands.Constant.{Constant}
use Rattle.cob_base.specs.declared.operands.Constant.TheVariants as constants
use Rattle.cob_base.specs.declared.tokens.Token.TheVariants.{Key, Verb, Text, Number, Mark as Sign}
use Rattle.cob_base.specs.Form.{Words, before, is_there}
use Rattle.cob_base.specs.Phrases as phrases
use Rattle.phrase_parser.specs.Reading.{Outcome, ◌>>=◌, read_as, read}

-- ---- references

unfoldable pub offset_at : Words → Outcome (Option Offset)
offset_at (Sign marks.Plus ∷ w) = (read phrases.int w >>= λ x. Ok (offsets.Plus x.0, x.1)) >>= λ x. Ok (Some x.0, x.1)
offset_at (Sign marks.Minus ∷ w) = (read phrases.int w >>= λ x. Ok (offsets.Minus x.0, x.1)) >>= λ x. Ok (Some x.0, x.1)
offset_at w = Ok (None, w)

unfoldable pub subscripted_at : ℕ → Words → Outcome (Option Subscript)
subscripted_at zero (Sign marks.LeftParenthesis ∷ w) = Err Nesting
subscripted_at (suc d) (Sign marks.LeftParenthesis ∷ w) = read (before phrases.subscript (phrases.sign marks.RightParenthesis)) w >>= λ x. Ok (Some x.0, x.1)
subscripted_at d w = Ok (None, w)

-- ---- constants and operands

abbrev pub opens_figurative_at : Words → Bool
opens_figurative_at (Key have ∷ w) = is_there (phrases.figurative_of have)
opens_figurative_at _ = false

unfoldable pub constant_at : Words → Outcome Constant
constant_at (Text text ∷ w) = Ok (constants.Text text, w)
constant_at (Number number ∷ w) = Ok (constants.Number number, w)
constant_at (Key have ∷ w) = read_as (phrases.figurative_of have) w >>= λ x. Ok (constants.Figurative x.0, x.1)
constant_at _ = Err NoFit

unfoldable pub opens_constant_at : Words → Bool
opens_constant_at (Text text ∷ w) = true
opens_constant_at (Number number ∷ w) = true
opens_constant_at (Key have ∷ w) = is_there (phrases.figurative_of have)
opens_constant_at _ = false

-- ---- SHARING

unfoldable pub sharing_at : Words → Outcome Sharing
sharing_at (Key k.All ∷ w) = read (phrases.noise k.Other) w >>= λ x. Ok (sharings.AllOther, x.1)
sharing_at (Key k.No ∷ w) = read (phrases.noise k.Other) w >>= λ x. Ok (sharings.NoOther, x.1)
sharing_at (Verb verbs.Read line ∷ Key k.Only ∷ w) = Ok (sharings.ReadOnly, w)
sharing_at _ = Err NoFit

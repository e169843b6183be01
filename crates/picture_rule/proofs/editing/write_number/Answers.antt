use Rattle.std.proofs.Common.{◌≡◌, ◌+◌, ap, ◌∙◌, sym, length, false}
use Rattle.std.specs.Prelude.{◌∷◌, ◌++◌, []}
use Rattle.picture_rule.specs.Picture.{sign_bytes}
use Rattle.picture_rule.specs.Editing.{sign_mark, number_text}
use Rattle.picture_rule.proofs.Places.{lead, trail, digits_length}
use Rattle.picture_rule.proofs.editing.write_number.Goals as goal

pub returns-in-Leading : goal.returns-in-Leading
returns-in-Leading c =
    let size : length c.args.out.now ≡ c.args.digits + 1 = c.requires.size ∙ ap (λ s. c.args.digits + sign_bytes s) c.in-Leading.is in
    lead _ _ _ _ size ∙ ap (λ s. s ∷ c.write_digits-in-Leading.new.out) c.sign_byte.ensures ∙ ap (λ d. sign_mark c.args.negative ∷ d) c.write_digits-in-Leading.ensures
    ∙ ap (λ s. number_text s c.args.digits c.args.units c.args.negative) (sym c.in-Leading.is)

pub returns-in-Trailing : goal.returns-in-Trailing
returns-in-Trailing c =
    let size : length c.args.out.now ≡ c.args.digits + 1 = c.requires.size ∙ ap (λ s. c.args.digits + sign_bytes s) c.in-Trailing.is in
    let written : length c.write_digits-in-Trailing.new.out ≡ c.args.digits = ap length c.write_digits-in-Trailing.ensures ∙ digits_length c.args.digits c.args.units false in
    trail _ _ _ _ size written ∙ ap (λ s. c.write_digits-in-Trailing.new.out ++ s ∷ []) c.sign_byte-in-Trailing.ensures ∙ ap (λ d. d ++ sign_mark c.args.negative ∷ []) c.write_digits-in-Trailing.ensures
    ∙ ap (λ s. number_text s c.args.digits c.args.units c.args.negative) (sym c.in-Trailing.is)

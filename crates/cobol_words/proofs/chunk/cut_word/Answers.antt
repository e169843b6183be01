use Rattle.std.proofs.Common.{◌≡◌, ◌∷◌, get_or, subst}
use Rattle.std.proofs.lemmas.Result.{err_from_is_err_and}
use Rattle.cobol_words.specs.declared.cell.Cell.{Cell}
use Rattle.cobol_words.specs.Taking.{IsSolid}
use Rattle.cobol_words.proofs.Cuts.{first_and_rest, solid_drop, no_quote_drop, cut_one, fault_goes}
use Rattle.cobol_words.proofs.chunk.cut_word.Goals as goal

abbrev d : Cell
d = record { byte = 0; line = record { 0 = 0 } }

pub returns-in_err-word-clause-found : goal.returns-in_err-word-clause-found
returns-in_err-word-clause-found c text f =
    let p = err_from_is_err_and c.from_residual.result c.from_residual.ensures.1 in
    let cell = get_or c.args.cells.now 0 d in
    let e : c.args.cells.now ≡ cell ∷ c.behind-rest.result.now = rw c.behind-rest.ensures (first_and_rest c.args.cells.now d c.requires.some) in
    rw (p.1, p.2) (fault_goes c.in_err-word.field-0.0 _ c.args.words.now c.args.before c.args.cells.now cell c.behind-rest.result.now text e c.requires.none (subst IsSolid e c.requires.solid) f.stops (c.in_err-word.ensures.taken text f))

pub returns-clause-solid : goal.returns-clause-solid
returns-clause-solid c = rw (c.behind.ensures, c.behind-rest.ensures) (solid_drop _ _ (solid_drop 1 c.args.cells.now c.requires.solid))

pub returns-clause-quotes : goal.returns-clause-quotes
returns-clause-quotes c = rw (c.behind.ensures, c.behind-rest.ensures) (no_quote_drop _ _ (no_quote_drop 1 c.args.cells.now c.requires.quotes))

pub returns-clause-found : goal.returns-clause-found
returns-clause-found c text f =
    let cell = get_or c.args.cells.now 0 d in
    let e : c.args.cells.now ≡ cell ∷ c.behind-rest.result.now = rw c.behind-rest.ensures (first_and_rest c.args.cells.now d c.requires.some) in
    rw (c.in_ok-push.ensures, c.behind.ensures) (cut_one c.args.words.now c.args.before c.in_ok-word.field-0.before c.args.cells.now cell c.behind-rest.result.now c.in_ok-word.field-0.word c.in_ok-word.field-0.more text e c.requires.none (subst IsSolid e c.requires.solid) f.stops c.in_ok-word.ensures.within (c.in_ok-word.ensures.taken text f))

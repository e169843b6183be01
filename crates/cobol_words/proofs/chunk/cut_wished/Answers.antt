use Rattle.std.proofs.Common.{◌≡◌, ◌∷◌, ◌∙◌, get_or, drop, ap, subst}
use Rattle.cobol_words.specs.declared.cell.Cell.{Cell}
use Rattle.cobol_words.specs.Taking.{IsSolid, wished_of}
use Rattle.cobol_words.proofs.Cells.{bytes}
use Rattle.cobol_words.proofs.Cuts.{first_and_rest, solid_drop, wished_one, wished_less, wished_no_quote}
use Rattle.cobol_words.proofs.chunk.cut_wished.Goals as goal

abbrev d : Cell
d = record { byte = 0; line = record { 0 = 0 } }

pub behind-requires : goal.behind-requires
behind-requires c = rw c.in_ok-wished.ensures (wished_less c.args.before.wish c.args.before.spaced c.args.cells.now c.requires.some).0

pub returns-clause-shorter : goal.returns-clause-shorter
returns-clause-shorter c = rw (c.behind.ensures, c.in_ok-wished.ensures) (wished_less c.args.before.wish c.args.before.spaced c.args.cells.now c.requires.some).1

pub returns-clause-solid : goal.returns-clause-solid
returns-clause-solid c = rw c.behind.ensures (solid_drop _ c.args.cells.now c.requires.solid)

pub returns-clause-quotes : goal.returns-clause-quotes
returns-clause-quotes c = rw (c.behind.ensures, c.in_ok-wished.ensures) (wished_no_quote c.args.before.wish c.args.before.spaced c.args.cells.now)

pub returns-clause-found : goal.returns-clause-found
returns-clause-found c text f =
    let cell = get_or c.args.cells.now 0 d in
    let e : c.args.cells.now ≡ cell ∷ drop 1 c.args.cells.now = first_and_rest c.args.cells.now d c.requires.some in
    let is : c.in_ok-wished.wished ≡ wished_of c.args.before.wish c.args.before.spaced (bytes (cell ∷ drop 1 c.args.cells.now)) =
    c.in_ok-wished.ensures ∙ ap (λ (xs : _). wished_of c.args.before.wish c.args.before.spaced (bytes xs)) e in
    rw (c.in_ok-push.ensures, c.behind.ensures) (wished_one c.args.words.now c.args.before c.args.cells.now cell (drop 1 c.args.cells.now) text c.in_ok-wished.wished e c.requires.wished (subst IsSolid e c.requires.solid) f is)

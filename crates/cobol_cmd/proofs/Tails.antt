-- What is left of the words behind a front that is known twice.
use Rattle.std.proofs.Common.{◌≡◌, ℕ, List, sym, ◌∙◌, ap, drop}
use Rattle.cob_base.specs.declared.word.Word.{Word}
use Rattle.cob_base.specs.declared.word.Word.TheVariants.{Name, Stop}
use Rattle.std.specs.Prelude.{map, codes, [], ◌∷◌}
use Rattle.std.specs.Char.{to_ascii_lowercase}
use Rattle.cobol_cmd.specs.Small.{named, heading, screen_heading, screen_item, procedure}

pub same_tail : (n : ℕ) (words front other : List Word) → words ≡ front → words ≡ other → drop n front ≡ drop n other
same_tail n words front other one two = ap (λ (l : List Word). drop n l) (sym one ∙ two)

-- the parts of a small program, one behind the other
pub joined : (words divisions item procedures : List Word) (program screen displayed : List ℕ) (line column : ℕ) (bytes : List ℕ)
    → words ≡ heading program divisions → divisions ≡ screen_heading screen item → item ≡ screen_item line column bytes procedures
    → procedures ≡ procedure displayed → map to_ascii_lowercase displayed ≡ map to_ascii_lowercase screen
    → words ≡ heading program (screen_heading screen (screen_item line column bytes (procedure screen)))
joined words divisions item procedures program screen displayed line column bytes first second third fourth same =
    let shown : procedures ≡ procedure screen = fourth ∙ ap (λ (name : List ℕ). named (codes "PROCEDURE") ∷ named (codes "DIVISION") ∷ Stop ∷ named (codes "DISPLAY") ∷ Name name ∷ Stop ∷ named (codes "STOP") ∷ named (codes "RUN") ∷ Stop ∷ []) same in
    first ∙ ap (heading program) (second ∙ ap (screen_heading screen) (third ∙ ap (screen_item line column bytes) shown))

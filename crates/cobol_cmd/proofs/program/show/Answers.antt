use Rattle.std.proofs.Common.{refl, sym, subst, List}
use Rattle.cob_base.specs.declared.word.Spoken.{Spoken}
use Rattle.cobol_cmd.specs.Small.{Small}
use Rattle.cobol_cmd.proofs.program.show.Goals as goal

pub returns-in_default-clause-fault : goal.returns-in_default-clause-fault
returns-in_default-clause-fault c = (
  refl,
  record {
    words = c.in_ok-words.words;
    has_words = c.in_ok-words.ensures.words;
    not_small = λ line column bytes small.
        let P : List Spoken → Type 0 = λ words. Small words line column bytes in
        c.in_default.ensures.none refl line column bytes (subst P (sym c.as_slice.ensures) small);
  },
)

use Rattle.std.proofs.Common.{◌∙◌, refl, sym}
use Rattle.cobol_words.proofs.Sentences.{no_stop, begins, stop_taken, word_taken}
use Rattle.cobol_words.proofs.sentence.entries_before.Goals as goal
use Rattle.cobol_words.proofs.sentence.entries_before.Goals.{then-is_stop+in_ok-push-2, else-is_stop}

pub returns-then-not-is_stop : goal.returns-then-not-is_stop
returns-then-not-is_stop c = no_stop c.args.words c.args.last (sym c.is_stop.ensures ∙ c.if-not-is_stop.true)

pub loop-word-init : goal.loop-word-init
loop-word-init c = rw (c.in_ok-push.ensures.items, c.new-front.ensures.items, c.new-behind.ensures.items) (begins c.args.words c.args.last (sym c.is_stop.ensures ∙ c.if-not-is_stop.false))

pub loop-word-preserved : goal.loop-word-preserved
loop-word-preserved c = elim c.if-is_stop.branch [
  | then-is_stop+in_ok-push-2 w ↦ stop_taken c.pop.new.self c.loop-word.words c.in-Some.word c.loop-word.front.items c.push-in-Some.new.self.items c.loop-word.behind.items c.if-is_stop.behind.items
      w.entry_of.result _ c.in-Some.ensures (sym c.is_stop-in-Some.ensures ∙ w.if-is_stop.true) w.entry_of.ensures
      (rw (w.front-is, w.new-front-then-is_stop.ensures.items) at c.in_ok-push-3.ensures.items) (rw w.behind-is w.in_ok-push-2.ensures.items) c.loop-word.invariant
  | else-is_stop w ↦ word_taken c.pop.new.self c.loop-word.words c.in-Some.word c.loop-word.front.items c.push-in-Some.new.self.items c.loop-word.behind.items c.if-is_stop.behind.items
      _ c.in-Some.ensures (sym c.is_stop-in-Some.ensures ∙ w.if-is_stop.false)
      (rw w.front-is at c.in_ok-push-3.ensures.items) (rw w.behind-is refl) c.loop-word.invariant
]

use Rattle.screen_layout.proofs.least.note_where.Goals as goal

pub returns-then-holds : goal.returns-then-holds
returns-then-holds c = λ all h. rw c.if-holds.true (c.note.ensures all h)

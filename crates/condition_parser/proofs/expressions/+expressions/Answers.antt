use Rattle.std.proofs.Common.{sym, ◌∙◌}
use Rattle.cob_base.specs.Form.{opens}
use Rattle.cob_base.specs.Form.Form.{some}
use Rattle.cob_base.specs.Expressions.{added, scaled, parentheses}
use Rattle.phrase_parser.specs.Reading.{read, read_many}
use Rattle.condition_parser.proofs.ExpressionDispatch.{opens_added_is, opens_more_added_is, opens_scaled_is, opens_more_scaled_is}
use Rattle.condition_parser.proofs.expressions.+expressions.Goals as goal

pub more_added-returns : goal.more_added-returns
unfolding read_many
more_added-returns t c =
    let inside = parentheses c.args.depth in
    c.many.ensures (opens (added c.args.depth inside)) (opens (some (added c.args.depth inside))) (read (added c.args.depth inside))
    (record { tells = λ w r h. h ∙ sym (opens_added_is c.args.depth inside w.now) })
    (record { tells = λ w r h. h ∙ sym (opens_more_added_is c.args.depth inside w.now) }) (record { gives = λ alloc w r h. h.1 })

pub more_scaled-returns : goal.more_scaled-returns
unfolding read_many
more_scaled-returns t c =
    let inside = parentheses c.args.depth in
    c.many.ensures (opens (scaled c.args.depth inside)) (opens (some (scaled c.args.depth inside))) (read (scaled c.args.depth inside))
    (record { tells = λ w r h. h ∙ sym (opens_scaled_is c.args.depth inside w.now) })
    (record { tells = λ w r h. h ∙ sym (opens_more_scaled_is c.args.depth inside w.now) }) (record { gives = λ alloc w r h. h.1 })

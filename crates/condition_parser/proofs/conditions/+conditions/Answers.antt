use Rattle.std.proofs.Common.{sym, ◌∙◌}
use Rattle.cob_base.specs.Form.{opens}
use Rattle.cob_base.specs.Form.Form.{some}
use Rattle.cob_base.specs.Conditions.{and_single, or_all_of, parentheses}
use Rattle.phrase_parser.specs.Reading.{read, read_many}
use Rattle.condition_parser.proofs.ConditionDispatch.{opens_and_single_is, opens_more_and_is, opens_or_all_of_is, opens_more_or_is}
use Rattle.condition_parser.proofs.conditions.+conditions.Goals as goal

pub more_and-returns : goal.more_and-returns
unfolding read_many
more_and-returns t c =
    let inside = parentheses c.args.depth in
    c.many.ensures (opens (and_single c.args.depth inside)) (opens (some (and_single c.args.depth inside))) (read (and_single c.args.depth inside))
    (record { tells = λ w r h. h ∙ sym (opens_and_single_is c.args.depth inside w.now) })
    (record { tells = λ w r h. h ∙ sym (opens_more_and_is c.args.depth inside w.now) }) (record { gives = λ alloc w r h. h.1 })

pub more_or-returns : goal.more_or-returns
unfolding read_many
more_or-returns t c =
    let inside = parentheses c.args.depth in
    c.many.ensures (opens (or_all_of c.args.depth inside)) (opens (some (or_all_of c.args.depth inside))) (read (or_all_of c.args.depth inside))
    (record { tells = λ w r h. h ∙ sym (opens_or_all_of_is c.args.depth inside w.now) })
    (record { tells = λ w r h. h ∙ sym (opens_more_or_is c.args.depth inside w.now) }) (record { gives = λ alloc w r h. h.1 })

use Rattle.std.proofs.Common.{ap, subst, ◌∙◌, All, Contains, map, List, ℕ}
use Rattle.shared_turn.specs.declared.happened.HappenedOf.{HappenedOf}
use Rattle.shared_turn.specs.declared.view.Caller.{Caller}
use Rattle.shared_turn.specs.Closing.{Agrees}
use Rattle.shared_turn.proofs.Passes.{All-agree, map-number}
use Rattle.shared_turn.proofs.turn.Turn.close.Goals as goal

pub returns-clause-lists : goal.returns-clause-lists
returns-clause-lists g c = All-agree _ _ (subst (All (Agrees c.finish.result.journal)) (ap (λ m. m.0.callers) c.gather-seat.ensures.all) c.finish.ensures.lists)

pub returns-clause-whose : goal.returns-clause-whose
returns-clause-whose g c =
    let numbers = ap (λ m. map (λ (d : Caller g.row.S-Ask.Denot g.row.S-Reply.Denot). d.number) m.0.callers) c.gather-seat.ensures.all ∙ map-number c.args.passes.items in
    subst (λ (l : List ℕ). All (λ (e : HappenedOf g.row.S-Ask.Denot g.row.S-Reply.Denot). Contains l e.who) c.finish.result.journal) numbers c.finish.ensures.whose

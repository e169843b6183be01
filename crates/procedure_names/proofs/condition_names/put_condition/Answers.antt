use Rattle.std.proofs.Common.{◌∙◌, sym, ap, ℕ, List}
use Rattle.cob_base.specs.declared.data_entries.ConditionEntry.{ConditionEntry}
use Rattle.data_names.specs.Asked.{is_asked}
use Rattle.data_names.specs.Names.{in_small}
use Rattle.procedure_names.proofs.NamesOf.{put_or_not, put_named}
use Rattle.procedure_names.proofs.condition_names.put_condition.Goals as goal

pub returns-in_ok-put_name : goal.returns-in_ok-put_name
returns-in_ok-put_name c = λ one known none.
    let asked = c.args.asked.now in
    put_named asked one c.args.at c.args.numbers.now c.put_name.new.numbers
    (ap (λ (name : List ℕ). is_asked asked (in_small name)) (sym (c.as_bytes.ensures ∙ ap (λ (entry : ConditionEntry). entry.name) known.entry)) ∙ sym c.in_ok-has.ensures ∙ c.if-has.true)
    (c.in_ok-put_name.ensures one (sym (ap (λ (entry : ConditionEntry). entry.name) known.entry)) known.item none)

pub returns-else-has : goal.returns-else-has
returns-else-has c = λ one known none.
    let asked = c.args.asked.now in
    put_or_not asked one c.args.at c.args.numbers.now
    (ap (λ (name : List ℕ). is_asked asked (in_small name)) (sym (c.as_bytes.ensures ∙ ap (λ (entry : ConditionEntry). entry.name) known.entry)) ∙ sym c.in_ok-has.ensures ∙ c.if-has.false)

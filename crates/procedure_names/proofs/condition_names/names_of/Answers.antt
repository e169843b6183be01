use Rattle.std.proofs.Common.{arith, ap, subst, ◌∙◌, ◌≤◌, ℕ, List, [], ◌∷◌, ◌++◌, length}
use Rattle.std.specs.Prelude.{if◌then◌else◌}
use Rattle.std.specs.Str.{bytes_eq}
use Rattle.std.proofs.lemmas.List.{take_all}
use Rattle.std.proofs.lemmas.Slice.Zip.{AllZip-long}
use Rattle.cob_base.specs.declared.data_entries.ConditionEntry.{ConditionEntry}
use Rattle.data_names.specs.Names.{in_small, numbers_under}
use Rattle.data_names.proofs.NumbersOf.{numbers-more}
use Rattle.procedure_names.specs.Conditions.{NamedCondition}
use Rattle.procedure_names.specs.ConditionNames.{has_name, AreNumbered}
use Rattle.procedure_names.specs.SeenConditions.{IsKnownCondition}
use Rattle.procedure_names.proofs.KnownConditions.{both_at}
use Rattle.procedure_names.proofs.condition_names.names_of.Goals as goal

pub loop-at-preserved : goal.loop-at-preserved
loop-at-preserved c = λ items named h (key : List ℕ).
    let at = c.loop-at.at in
    let both = both_at items c.args.all.now named at c.index-all-at.result h c.loop-at-test.true c.index-all-at.is in
    let before = numbers_under c.loop-at.names key in
    let called = c.as_bytes.ensures ∙ ap (λ (entry : ConditionEntry). entry.name) both.known.entry in
    numbers-more (has_name key) named at both.one _ _ both.within both.read (c.loop-at.invariant items named h key)
    (c.in_ok-add.ensures key ∙ ap (λ (name : List ℕ). if bytes_eq (in_small name) key then before ++ at ∷ [] else before) called)

pub returns : goal.returns
returns c = λ items named h.
    let past : length named ≤ c.loop-at.at = omega (arith, AllZip-long (IsKnownCondition items) c.args.all.now named h, c.loop-at-test.false) in
    subst (λ (some : List NamedCondition). AreNumbered some c.loop-at.names) (take_all c.loop-at.at named past) (c.loop-at.invariant items named h)

use Rattle.std.proofs.Common.{◌<◌, ◌≤◌, ◌∙◌, sym, ap, arith, not, ◌++◌, List, length, map}
use Rattle.std.specs.Prelude.{filter}
use Rattle.std.proofs.lemmas.List.{get_or-map, length-map}
use Rattle.std.proofs.lemmas.Simd.{map-map}
use Rattle.name_rules.specs.Faults.{faults_at}
use Rattle.statement_parts.specs.declared.names.Wanted.{Wanted}
use Rattle.statement_parts.specs.Seen.{seen_wanted}
use Rattle.procedure_names.specs.Names.{is_known}
use Rattle.procedure_names.specs.Mentions.{Asked, asked}
use Rattle.procedure_names.specs.Scoped.{items_in}
use Rattle.procedure_names.proofs.Noted.{noted_more, noted_all}
use Rattle.procedure_names.proofs.unknown_names.note_unknown_names_of.Goals as goal

pub loop-name-preserved : goal.loop-name-preserved
loop-name-preserved c =
    let scope = c.args.scope.now in
    let some = c.as_slice-name-items.result.now in
    let at = c.loop-name.name-index in
    let x = c.name-item.result in
    let see = λ (name : Wanted). asked c.args.one.now.line (seen_wanted name) in
    let within : at < length (map see some) = omega (arith, c.loop-name-test.true, length-map some see) in
    noted_more 1 (λ (name : Asked). name.line) (λ (name : Asked). not (is_known scope.program.now (items_in scope) name.name)) (map see some) at (see x) _ _ _ _ within
    (ap see c.name-item.is ∙ sym (get_or-map see some at x (see x) c.loop-name-test.true))
    (ap not c.in_ok-is_known.ensures) c.loop-name.invariant c.in_ok-note.ensures

pub returns : goal.returns
returns c =
    let scope = c.args.scope.now in
    let some = c.as_slice-name-items.result.now in
    let line = c.args.one.now.line in
    let see = λ (name : Wanted). asked line (seen_wanted name) in
    let test = λ (name : Asked). not (is_known scope.program.now (items_in scope) name.name) in
    let past : length (map see some) ≤ c.loop-name.name-index = omega (arith, c.loop-name-test.false, length-map some see) in
    noted_all 1 (λ (name : Asked). name.line) test (map see some) c.loop-name.name-index _ _ past c.loop-name.invariant
    ∙ ap (λ (lists : List Asked). c.args.faults.now.found.items ++ faults_at 1 (map (λ (name : Asked). name.line) (filter test lists)))
    (sym (map-map (asked line) seen_wanted some) ∙ ap (map (asked line)) (ap (map seen_wanted) c.as_slice-name-items.ensures.value ∙ c.in_ok-names.ensures))

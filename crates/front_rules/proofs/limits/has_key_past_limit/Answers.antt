use Rattle.std.proofs.Common.{◌∙◌, ap, sym, ◌||◌, List}
use Rattle.cob_base.specs.declared.file_entries.FileClause.{FileClause}
use Rattle.std.specs.Prelude.{option_to_list}
use Rattle.std.specs.List.{list_any}
use Rattle.cob_base.specs.declared.operands.Reference.{Reference}
use Rattle.data_names.specs.References.{found}
use Rattle.data_names.specs.Table.{items_of}
use Rattle.entry_clauses.specs.Clauses.{Alternate, record_key, alternates}
use Rattle.front_rules.specs.Limits.{is_key_past_limit}
use Rattle.name_rules.proofs.SpotsOf.{any_parts}
use Rattle.front_rules.proofs.limits.has_key_past_limit.Goals as goal

pub returns : goal.returns
returns c =
    let test = λ (key : Reference). is_key_past_limit (found (items_of c.args.table.now) key) in
    let either = λ (clauses : List FileClause). list_any test (option_to_list (record_key clauses)) || list_any (λ (alternate : Alternate). test alternate.key) (alternates clauses) in
    c.is_either.ensures ∙ ap (λ b. b || c.in_ok-alternate.alternate) c.in_ok-prime.ensures
    ∙ ap (λ b. list_any test (option_to_list (record_key c.as_slice-clauses.result.now)) || b) c.in_ok-alternate.ensures
    ∙ ap either c.as_slice-clauses.ensures
    ∙ sym (any_parts test (λ (alternate : Alternate). alternate.key) (option_to_list (record_key c.args.file.now.clauses)) (alternates c.args.file.now.clauses))

-- The references of a procedure division that the code holds, as the definitions see them.
use Rattle.std.specs.Prelude.{◌≡◌, ℕ, List, ◌++◌, map, All, option_to_list}
use Rattle.std.specs.List.{flat_map}
use Rattle.cob_base.specs.declared.divisions.Front.{Front}
use Rattle.cob_base.specs.declared.paragraphs.Paragraph.{Paragraph}
use Rattle.cob_base.specs.declared.statements.Located.{Located}
use Rattle.cob_base.specs.declared.statements.Statement.{Statement}
use Rattle.data_names.specs.Items.{DataItem}
use Rattle.name_rules.specs.DoubleNames.{declared}
use Rattle.name_rules.specs.Mentions as m
use Rattle.name_rules.specs.SeenMentions.{AreFoundAs}
use Rattle.procedure_names.specs.declared.mentions.ConditionMention.{ConditionMention}
use Rattle.procedure_names.specs.declared.mentions.StatementMentions.{StatementMentions}
use Rattle.procedure_names.specs.Mentions.{item_mentions, condition_mentions, subscript_mentions}
use Rattle.procedure_names.specs.SeenConditions.{IsFoundCondition}

abbrev pub seen_condition : ConditionMention → m.Mention
seen_condition one = m.mention one.line one.reference.now

-- it is said what a reference stands for among the 88 entries
abbrev pub IsFoundAsCondition : Front → List DataItem → ConditionMention → Type 0
IsFoundAsCondition front items one = IsFoundCondition front items one.reference.now one.found

-- these references to 88 entries were found
pub record AreFoundConditions (front : Front) (items : List DataItem) (all : List m.Mention) (made : List ConditionMention) : Type 0 where
  pub seen : map seen_condition made ≡ all
  pub found : All (IsFoundAsCondition front items) made

-- these references to 88 entries were found and pushed
pub record AddsConditions (front : Front) (items : List DataItem) (more : List m.Mention) (old new : List ConditionMention) : Type 0 where
  pub seen : map seen_condition new ≡ map seen_condition old ++ more
  pub found : All (IsFoundAsCondition front items) old → All (IsFoundAsCondition front items) new

-- the references of statements
pub record AreStatementMentions (front : Front) (items : List DataItem) (statements : List (Located Statement)) (made : StatementMentions) : Type 0 where
  pub items_are : AreFoundAs items (item_mentions statements) made.items.items
  pub subscripts_are : AreFoundAs items (subscript_mentions statements) made.subscripts.items
  pub conditions_are : AreFoundConditions front items (condition_mentions statements) made.conditions.items

-- the names that are taken before a paragraph: those of the front, and those of earlier paragraphs
abbrev pub taken_names : Front → List Paragraph → List (List ℕ)
taken_names front before = map (λ one. one.name) (declared front) ++ flat_map (λ paragraph. option_to_list paragraph.name) before

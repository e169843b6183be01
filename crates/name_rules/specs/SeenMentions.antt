-- The references that the code holds, as the definitions see them.
use Rattle.std.specs.Prelude.{◌≡◌, List, ◌++◌, map, All}
use Rattle.std.specs.Option.{option_copied}
use Rattle.cob_base.specs.declared.divisions.Front.{Front}
use Rattle.data_names.specs.Items.{DataItem}
use Rattle.data_names.specs.Table.{IsFound}
use Rattle.name_rules.specs.declared.mentions.Mention.{Mention}
use Rattle.name_rules.specs.declared.mentions.Mentions.{Mentions}
use Rattle.name_rules.specs.Mentions.{references, subscript_items}
use Rattle.name_rules.specs.Mentions as m

abbrev pub seen_mention : Mention → m.Mention
seen_mention one = m.mention one.line (record { name = one.name.now; qualifiers = one.qualifiers.now; subscript = option_copied one.subscript })

-- it is said what a reference stands for
abbrev pub IsFoundMention : List DataItem → Mention → Type 0
IsFoundMention items one = IsFound items one.name.now one.qualifiers.now one.found

-- these references were found
pub record AreFoundAs (items : List DataItem) (all : List m.Mention) (made : List Mention) : Type 0 where
  pub seen : map seen_mention made ≡ all
  pub found : All (IsFoundMention items) made

-- the references of a front, and the items of their subscripts
pub record AreMentions (front : Front) (items : List DataItem) (made : Mentions) : Type 0 where
  pub references_are : AreFoundAs items (references front) made.references.items
  pub subscripts_are : AreFoundAs items (subscript_items front) made.subscripts.items

-- these references were found and pushed
pub record AddsMentions (items : List DataItem) (more : List m.Mention) (old new : List Mention) : Type 0 where
  pub seen : map seen_mention new ≡ map seen_mention old ++ more
  pub found : All (IsFoundMention items) old → All (IsFoundMention items) new

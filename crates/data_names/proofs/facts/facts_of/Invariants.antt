-- The facts of the items so far.
use Rattle.std.proofs.Common.{take, map}
use Rattle.data_names.specs.Spots.{spots}
use Rattle.data_names.specs.Seen.{seen_item}
use Rattle.data_names.specs.Facts.{AreFactsOf}
use Rattle.data_names.specs.Survey.{IsSurvey}
use Rattle.data_names.proofs.facts.facts_of.Given as goal

abbrev pub invariant-loop-at : goal.invariant-loop-at
invariant-loop-at l = record {
  survey : IsSurvey (map seen_item (take l.at l.items)) l.survey;
  facts : AreFactsOf (take l.at (spots (map seen_item l.items))) l.facts.items;
}

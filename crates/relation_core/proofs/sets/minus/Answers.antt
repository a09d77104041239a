use Rattle.std.proofs.Common.{List, subst, MatchResult}
use Rattle.value_core.specs.Values.{Row}
use Rattle.relation_core.specs.Answers.{IsAnswer, IsRefusal}
use Rattle.relation_core.proofs.FilterLemmas.{rows_ascend}
use Rattle.relation_core.proofs.MergeLemmas.{merged_minus}
use Rattle.relation_core.proofs.sets.minus.Goals as goal

pub returns : goal.returns
returns c =
    subst (λ (u : List Row). MatchResult c.merge_relations.result (IsAnswer c.args.left.now.heading u) (IsRefusal u))
    (merged_minus c.args.left.now.rows c.args.right.now.rows (rows_ascend c.args.left.now c.merge_relations.ensures.relation)) c.merge_relations.ensures.rows

use Rattle.std.proofs.Common.{◌∷◌, []}
use Rattle.plain_rows.specs.Tuples.{relation_word, open_brace}
use Rattle.plain_rows.proofs.IntervalLemmas.{begins-both-gap}
use Rattle.plain_rows.proofs.statement.past_relation.Goals as goal

pub returns : goal.returns
returns c = begins-both-gap _ _ _ _ _ (relation_word ∷ []) (open_brace ∷ []) c.in_ok-behind.ensures c.past_space-brace.ensures c.in_ok-opened.ensures c.past_space.ensures

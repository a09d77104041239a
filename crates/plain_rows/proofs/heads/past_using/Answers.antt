use Rattle.std.proofs.Common.{◌∷◌, []}
use Rattle.plain_rows.specs.Tuples.{using_word, open_bracket}
use Rattle.plain_rows.proofs.IntervalLemmas.{begins-both-gap}
use Rattle.plain_rows.proofs.heads.past_using.Goals as goal

pub returns : goal.returns
returns c = begins-both-gap _ _ _ _ _ (using_word ∷ []) (open_bracket ∷ []) c.in_ok-behind.ensures c.past_space-bracket.ensures c.in_ok-opened.ensures c.past_space.ensures

use Rattle.std.proofs.Common.{◌∷◌, []}
use Rattle.plain_rows.specs.Tuples.{close_bracket}
use Rattle.plain_rows.specs.Written.{colon}
use Rattle.plain_rows.proofs.IntervalLemmas.{begins-both-gap}
use Rattle.plain_rows.proofs.heads.past_list.Goals as goal

pub returns : goal.returns
returns c = begins-both-gap _ _ _ _ _ (close_bracket ∷ []) (colon ∷ []) c.in_ok-closed.ensures c.past_space-sign.ensures c.in_ok-behind.ensures c.past_space.ensures

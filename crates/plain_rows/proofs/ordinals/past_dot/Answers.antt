use Rattle.std.proofs.Common.{◌∷◌, []}
use Rattle.plain_rows.specs.Written.{dot}
use Rattle.plain_rows.proofs.OrdinalLemmas.{begins-around}
use Rattle.plain_rows.proofs.ordinals.past_dot.Goals as goal

pub returns : goal.returns
returns c = begins-around _ _ _ _ (dot ∷ []) c.past_space-here.ensures c.in_ok-behind.ensures c.past_space.ensures

use Rattle.std.proofs.Common.{refl}
use Rattle.u_constraints.proofs.GrowthLemmas.{none_gone}
use Rattle.u_constraints.proofs.growth.left_of.Goals as goal

pub returns-then-is_empty : goal.returns-then-is_empty
returns-then-is_empty c = (refl, none_gone c.args.all.rows c.args.gone.now.rows c.rows.result.now c.is_empty.result c.rows.ensures.rows c.is_empty.ensures c.if-is_empty.true)

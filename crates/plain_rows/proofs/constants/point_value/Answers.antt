use Rattle.plain_rows.proofs.ConstantLemmas.{point-constant}
use Rattle.plain_rows.proofs.constants.point_value.Goals as goal

pub returns : goal.returns
returns c = point-constant _ _ _ _ c.in_ok-p.ensures.begins c.in_ok-p.ensures.point

use Rattle.plain_rows.proofs.ConstantLemmas.{span-constant}
use Rattle.plain_rows.proofs.constants.span_value.Goals as goal

pub returns : goal.returns
returns c = span-constant _ _ _ _ c.in_ok-i.ensures.begins c.in_ok-i.ensures.begin_point c.in_ok-i.ensures.end_point

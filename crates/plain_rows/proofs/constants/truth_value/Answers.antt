use Rattle.plain_rows.proofs.ConstantLemmas.{truth-constant}
use Rattle.plain_rows.proofs.constants.truth_value.Goals as goal

pub returns : goal.returns
returns c types = truth-constant _ _ _ c.in_ok-b.ensures

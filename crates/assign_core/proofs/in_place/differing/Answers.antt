use Rattle.std.proofs.Common.{◌∙◌}
use Rattle.assign_core.proofs.InPlaceLemmas.{differing}
use Rattle.assign_core.proofs.in_place.differing.Goals as goal

pub returns : goal.returns
returns c =
    differing c.args.value.now c.args.rows.now (record { come = c.in_ok-come.come; gone = c.in_ok-gone.gone }) c.in_ok-more.more c.in_ok-strange.strange c.in_ok-more.ensures.1 c.in_ok-strange.ensures.1
    (c.in_ok-come.ensures.0 ∙ c.in_ok-more.ensures.0) c.in_ok-gone.ensures.0 c.in_ok-come.ensures.1 c.in_ok-gone.ensures.1

use Rattle.std.proofs.Common.{◌≤◌, length, arith}
use Rattle.std.proofs.lemmas.Bool.Decides.{nat_tests}
use Rattle.cell_sweep.proofs.Sweeping.{rising}
use Rattle.cell_sweep.proofs.live.rise.Goals as goal

pub returns : goal.returns
returns c = λ h.
    let end : length c.args.numbers.now ≤ c.loop-at.at = grind (arith, nat_tests) in
    rising c.args.numbers.now (λ i l. c.loop-at.invariant.each i (omega arith) l)

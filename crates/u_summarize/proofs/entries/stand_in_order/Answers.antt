use Rattle.std.proofs.Common.{◌≤◌, ◌+◌, length, arith}
use Rattle.std.proofs.lemmas.Bool.Decides.{nat_tests}
use Rattle.u_summarize.proofs.EntryLemmas.{stand}
use Rattle.u_summarize.proofs.entries.stand_in_order.Goals as goal

pub returns : goal.returns
returns c = λ h.
    let end : length c.args.rows.now ≤ c.loop-i.i + 1 = grind (arith, nat_tests) in
    stand c.args.rows.now (λ k l. c.loop-i.invariant.each k (omega (arith, end, l)))

use Rattle.std.proofs.Common.{◌≡◌, length, arith, ◌∙◌}
use Rattle.u_summarize.proofs.EntryLemmas.{stands_in_turn}
use Rattle.u_summarize.proofs.entries.numbers_in_turn.Goals as goal

pub returns : goal.returns
returns c =
    let is = c.loop-i.invariant in
    let within = is.within in
    let end = c.loop-i-test.false in
    let all : c.loop-i.i ≡ length c.args.rows.now = omega (arith, within, end) in
    stands_in_turn c.args.rows.now c.loop-i.i within is.order c.loop-i.out.items (is.count ∙ all) all is.each

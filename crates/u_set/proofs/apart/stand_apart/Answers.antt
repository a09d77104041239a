use Rattle.std.proofs.Common.{◌≤◌, List, map, length, arith}
use Rattle.value_core.specs.Values.{Row}
use Rattle.u_set.proofs.ApartLemmas.{beyond_turn, all_turned}
use Rattle.u_set.proofs.apart.stand_apart.Goals as goal

pub loop-i-preserved : goal.loop-i-preserved
loop-i-preserved c =
    let rows : List Row = map (λ r. r.row.now) c.args.rows.now in
    beyond_turn c.args.label.now c.args.at c.args.gap rows c.loop-i.i c.loop-i.invariant (c.stands_apart.ensures c.if-not-stands_apart.false)

pub returns : goal.returns
returns c = λ t.
    let h = c.loop-i-test.false in
    let l : length c.args.rows.now ≤ c.loop-i.i = omega arith in
    all_turned c.args.label.now c.args.at c.args.gap (λ r. r.row.now) c.args.rows.now c.loop-i.i l c.requires c.loop-i.invariant

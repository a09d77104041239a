use Rattle.std.proofs.Common.{◌≡◌, ◌≤◌, ℕ, List, map, length, arith, sym}
use Rattle.std.proofs.lemmas.List.{length-map}
use Rattle.cell_packing.specs.Boxed.{Boxed}
use Rattle.cell_core.specs.Cells.{row_numbers}
use Rattle.cell_core.proofs.ApartLemmas.{side_turn, beyond_turn, all_turned}
use Rattle.cell_core.proofs.apart.stand_apart.Goals as goal

pub loop-i-preserved : goal.loop-i-preserved
loop-i-preserved g c =
    let order = g.P.Label.order in
    let rows : List (Boxed g.row.P.Denot) = map (λ r. row_numbers g.T.PointType.number_of r.now) c.args.rows.now in
    let a = c.loop-i.invariant.cost in
    let b = c.stands_apart.ensures.cost in
    record {
      sides = side_turn order rows c.loop-i.i c.loop-i.invariant.sides c.stands_apart.ensures.side;
      beyond = beyond_turn order rows c.loop-i.i c.loop-i.invariant.beyond (c.stands_apart.ensures.beyond c.if-not-stands_apart.false);
      cost = omega arith;
    }

pub returns-clause-answer : goal.returns-clause-answer
returns-clause-answer g c = λ t.
    let rows : List (Boxed g.row.P.Denot) = map (λ r. row_numbers g.T.PointType.number_of r.now) c.args.rows.now in
    let h = c.loop-i-test.false in
    let l : length c.args.rows.now ≤ c.loop-i.i = omega arith in
    all_turned g.P.Label.order rows c.loop-i.i (length c.args.rows.now) (sym (length-map c.args.rows.now (λ r. row_numbers g.T.PointType.number_of r.now))) l c.loop-i.invariant.sides c.loop-i.invariant.beyond

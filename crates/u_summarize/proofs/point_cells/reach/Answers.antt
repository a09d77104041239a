use Rattle.std.proofs.Common.{arith, sym, ap, ◌∙◌, subst, to_z, w64}
use Rattle.std.specs.List.{All}
use Rattle.std.proofs.lemmas.Int.{ints, clamps}
use Rattle.cell_core.specs.Cells.{box_numbers}
use Rattle.cell_core.proofs.KeyLemmas.{take_whole}
use Rattle.u_summarize.specs.PointCells.{LiesIn}
use Rattle.u_summarize.proofs.PointCellLemmas.{one_more_row}
use Rattle.u_summarize.proofs.point_cells.reach.Goals as goal

pub loop-row-preserved : goal.loop-row-preserved
loop-row-preserved g c =
    let n = g.T.PointType.number_of in
    let own = c.ends_of-ends.ensures in
    let own_low = own.low in
    let own_high = own.high in
    let down = c.min-least.ensures.value in
    let down_self = c.min-least.ensures.self_bound in
    let down_other = c.min-least.ensures.other_bound in
    let up = c.max-greatest.ensures.value in
    let up_self = c.max-greatest.ensures.self_bound in
    let up_other = c.max-greatest.ensures.other_bound in
    let low = c.loop-row.invariant.low in
    let high = c.loop-row.invariant.high in
    record {
      each = one_more_row n c.args.rows.now c.loop-row.row-index c.row-item.result c.loop-row-test.true c.row-item.is (to_z w64 c.loop-row.least-bits, to_z w64 c.loop-row.greatest-bits) c.ends_of-ends.result (_, _) (omega (arith, ints)) (omega (arith, ints)) (omega (arith, ints)) own.ordered (omega (arith, ints))
          (ap (box_numbers n) (sym (ap (λ x. x.1) c.row.view_is)) ∙ own.numbers) c.loop-row.invariant.each;
      low = omega (arith, ints, clamps);
      high = omega (arith, ints, clamps);
    }

pub returns-clause-each : goal.returns-clause-each
returns-clause-each g c =
    subst (All (λ b. LiesIn (to_z w64 c.loop-row.least-bits, to_z w64 c.loop-row.greatest-bits) (box_numbers g.T.PointType.number_of b.1))) (take_whole c.args.rows.now c.loop-row.row-index c.loop-row-test.false) c.loop-row.invariant.each

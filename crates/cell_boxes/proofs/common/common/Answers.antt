use Rattle.std.proofs.Common.{◌≡◌, length, arith, ap, ◌∙◌}
use Rattle.cell_boxes.specs.Rows.{PlainCellBox}
use Rattle.cell_boxes.proofs.GridPointLemmas.{all_common}
use Rattle.cell_boxes.proofs.common.common.Goals as goal

pub returns : goal.returns
returns g c =
    let long : length c.x.inside.sides.items ≡ length c.args.x.now.1 = ap (λ (z : PlainCellBox _). length z.1) c.x.view_is in
    c.loop-s.invariant ∙ all_common c.args.x.now.1 c.args.y.now.1 c.loop-s.s c.requires (omega (arith, long))

use Rattle.cell_core.proofs.GridPointLemmas.{volume_step}
use Rattle.cell_core.proofs.grid_points.volume_of.Goals as goal

pub loop-span-preserved : goal.loop-span-preserved
loop-span-preserved c =
    volume_step 340282366920938463463374607431768211455 c.args.spans.now c.loop-span.span-index c.loop-span.product c.count.result c.saturating_mul-product.result c.loop-span-test.true c.requires c.count.ensures c.loop-span.invariant c.saturating_mul-product.ensures

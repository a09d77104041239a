use Rattle.std.proofs.Common.{◌∷◌, map, ◌∙◌}
use Rattle.u_row.proofs.CuttingLemmas.{flat_step}
use Rattle.u_row.proofs.cutting.with_each.Goals as goal

pub loop-piece-preserved : goal.loop-piece-preserved
loop-piece-preserved g c =
    flat_step (λ i. map (λ s. i ∷ s) c.args.rest.now) c.args.pieces.now c.loop-piece.piece-index c.piece-item.result c.loop-piece.out.items c.push_with.new.out.items c.loop-piece-test.true c.piece-item.is c.in_ok-push_with.ensures ∙ c.loop-piece.invariant

use Rattle.std.proofs.Common.{◌∷◌, ◌-◌, length, map, pos, get_or, refl, ap, ◌∙◌, arith}
use Rattle.std.specs.List.{flat_map}
use Rattle.std.proofs.lemmas.List.{get_or_default}
use Rattle.interval_core.specs.Members.{members}
use Rattle.cell_core.proofs.GridPointLemmas.{one_more_side}
use Rattle.cell_core.proofs.grid_points.grid_points_of.Goals as goal

pub loop-j-preserved : goal.loop-j-preserved
loop-j-preserved c =
    let spans = c.args.spans.now in
    let at = length spans - 1 - c.loop-j.j in
    let span = get_or spans at (pos 0, pos 0) in
    let h = c.loop-j-test.true in
    one_more_side spans c.loop-j.j at span c.loop-j.out.items c.in_ok-out.out.items h refl (get_or_default spans at (pos 0, pos 0) span (omega arith)) c.loop-j.invariant
    (c.in_ok-out.ensures ∙ ap (λ ys. flat_map (λ p. map (λ ps. p ∷ ps) ys) (members span)) c.as_slice.ensures.value)

use Rattle.std.proofs.Common.{◌≡◌, ◌<◌, sym, ap₂, arith, rules, length, get_or, pos, subst}
use Rattle.std.specs.Int.{w128}
use Rattle.std.proofs.lemmas.Int.{to_z-of_z}
use mir.Val.{SFits}
use Rattle.std.specs.List.{All}
use Rattle.point_core.specs.Points.{line, number}
use Rattle.interval_core.specs.Members.{span}
use Rattle.scalar_core.proofs.CutLemmas.{inside_more}
use Rattle.scalar_core.proofs.cutting.points_inside.Goals as goal

pub loop-n-preserved : goal.loop-n-preserved
loop-n-preserved c =
    let told = c.in_ok-push_inside.ensures in
    let n = get_or c.args.numbers.now c.loop-n.n-index (pos 0) in
    let fits : SFits w128 n = search rules in
    let within : c.loop-n.n-index < length c.args.numbers.now = omega arith in
    record {
      numbers = inside_more (number c.begin.result, number c.end.result) (span number c.args.i.now) c.args.numbers.now _ _ c.loop-n.n-index _ (pos 0) within
          (ap₂ (λ b e. (number b, number e)) c.begin.ensures.point c.end.ensures.point) (to_z-of_z w128 n fits) c.loop-n.invariant.numbers told.numbers;
      points = subst (λ b. All (λ p. line p ≡ line b) c.push_inside.new.points.items) c.begin.ensures.point
          (told.points (subst (λ b. All (λ p. line p ≡ line b) c.loop-n.points.items) (sym c.begin.ensures.point) c.loop-n.invariant.points));
    }

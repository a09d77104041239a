use Rattle.std.proofs.Common.{◌≡◌}
use Rattle.std.proofs.lemmas.List.Elements.{All-push, All-same}
use Rattle.point_core.specs.Points.{line}
use Rattle.scalar_core.proofs.cutting.push_inside.Goals as goal

pub returns-in_ok-push-clause-points : goal.returns-in_ok-push-clause-points
returns-in_ok-push-clause-points c h =
    let now = c.in_ok-push.ensures.items in
    All-same (λ p. line p ≡ line c.args.begin) _ _ now (All-push (λ p. line p ≡ line c.args.begin) _ _ h c.point_between.ensures.line)

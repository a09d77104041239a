use Rattle.std.proofs.Common.{◌-◌, arith, ◌∷◌, [], ◌++◌, ◌∙◌, ap}
use Rattle.std.proofs.lemmas.List.Elements.{All-same, All-push}
use Rattle.point_core.specs.Points.{IsPointOf}
use Rattle.interval_core.specs.Members.{HasEndsIn}
use Rattle.eval_using.proofs.RunLemmas.{spans_pushed, spans_longer, points_longer}
use Rattle.eval_using.proofs.runs.add_part.Goals as goal

pub returns-then-follows-clause-numbers : goal.returns-then-follows-clause-numbers
returns-then-follows-clause-numbers c =
    let some = c.if-count-gt0.true in
    let many = c.len-count.ensures in
    spans_longer c.args.runs.now.items (c.len-count.result - 1) c.index-then-follows.result.now c.longer.result c.args.part.now (omega (arith, some, many)) c.index-then-follows.ensures c.longer.ensures.numbers

pub returns-then-follows-clause-points : goal.returns-then-follows-clause-points
returns-then-follows-clause-points c = λ t h all.
    let some = c.if-count-gt0.true in
    let many = c.len-count.ensures in
    points_longer t c.args.runs.now.items (c.len-count.result - 1) c.index-then-follows.result.now c.longer.result c.args.part.now (omega (arith, some, many)) c.index-then-follows.ensures c.longer.ensures.ends h all

pub returns-clause-numbers : goal.returns-clause-numbers
returns-clause-numbers c = spans_pushed c.args.runs.now.items c.push.new.self.items c.args.part.now (c.in_ok-push.ensures.items ∙ ap (λ x. c.args.runs.now.items ++ x ∷ []) c.copy.ensures)

pub returns-clause-points : goal.returns-clause-points
returns-clause-points c = λ t h all.
    All-same (HasEndsIn IsPointOf t) c.push.new.self.items (c.args.runs.now.items ++ c.args.part.now ∷ []) (c.in_ok-push.ensures.items ∙ ap (λ x. c.args.runs.now.items ++ x ∷ []) c.copy.ensures)
    (All-push (HasEndsIn IsPointOf t) c.args.runs.now.items c.args.part.now all h)

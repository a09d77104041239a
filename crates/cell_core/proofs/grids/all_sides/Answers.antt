use Rattle.std.proofs.Common.{◌≡◌, ℕ, ◌+◌, ◌++◌, ◌∷◌, [], length, map, get_or, arith, subst, sym, ap, ◌∙◌, inl, inr}
use Rattle.std.proofs.lemmas.Bool.{cases_lt}
use Rattle.std.proofs.lemmas.List.{get_or_append_left, get_or_push, length_push, get_or_read}
use Rattle.cell_core.specs.Costs.{side_cost}
use Rattle.cell_core.proofs.StepLemmas.{one_more, sides_within}
use Rattle.cell_core.specs.Numbering.{IsSide}
use Rattle.cell_core.specs.Cells.{side_of}
use Rattle.cell_core.proofs.grids.all_sides.Goals as goal

pub loop-j-preserved : goal.loop-j-preserved
loop-j-preserved g c =
    let out = c.loop-j.out.items in
    let all = c.args.left.now ++ c.args.right.now in
    let push = c.in_ok-push.ensures.items in
    record {
      count = ap length push ∙ length_push out c.in_ok-side.side ∙ ap (λ m. m + 1) c.loop-j.invariant.count;
      sides = λ j t d e h.
          let len = c.loop-j.invariant.count in
          elim (cases_lt j c.loop-j.j) [
            | inl l ↦ subst (λ v. IsSide g.T.PointType.number_of (g.T.PointType.IsPoint (get_or c.args.types.now j t)) (g.T.PointType.last_number (get_or c.args.types.now j t)) (map (side_of j d) all) v) (sym (ap (λ ys. get_or ys j e) push ∙ get_or_append_left out (c.in_ok-side.side ∷ []) e j (omega arith))) (c.loop-j.invariant.sides j t d e l)
            | inr l ↦
                let q : c.loop-j.j ≡ j = omega arith in
                let last = get_or_push out c.in_ok-side.side e c.loop-j.j len in
                subst (λ m. IsSide g.T.PointType.number_of (g.T.PointType.IsPoint (get_or c.args.types.now m t)) (g.T.PointType.last_number (get_or c.args.types.now m t)) (map (side_of m d) all) (get_or c.push.new.self.items m e)) q
                (subst (λ v. IsSide g.T.PointType.number_of (g.T.PointType.IsPoint (get_or c.args.types.now c.loop-j.j t)) (g.T.PointType.last_number (get_or c.args.types.now c.loop-j.j t)) (map (side_of c.loop-j.j d) all) v) (sym (ap (λ ys. get_or ys c.loop-j.j e) push ∙ last))
                (subst (λ m. IsSide g.T.PointType.number_of (g.T.PointType.IsPoint m) (g.T.PointType.last_number m) (map (side_of c.loop-j.j d) all) c.in_ok-side.side) (get_or_read c.args.types.now c.loop-j.j c.index-types-j.result c.loop-j-test.true c.index-types-j.is t) (c.in_ok-side.ensures.side d)))
          ];
      cost = one_more c.loop-j.j (side_cost (length c.args.left.now + length c.args.right.now)) c.args.steps.now c.loop-j.steps c.one_side.new.steps c.loop-j.invariant.cost c.in_ok-side.ensures.cost;
    }

pub returns-clause-sides : goal.returns-clause-sides
returns-clause-sides g c = λ j t d e h. c.loop-j.invariant.sides j t d e (omega arith)

pub returns-in_err-side-clause-cost : goal.returns-in_err-side-clause-cost
returns-in_err-side-clause-cost g c =
    let s : ℕ = side_cost (length c.args.left.now + length c.args.right.now) in
    sides_within (c.loop-j.j + 1) (length c.args.types.now) s c.args.steps.now c.one_side.new.steps (omega arith) (one_more c.loop-j.j s c.args.steps.now c.loop-j.steps c.one_side.new.steps c.loop-j.invariant.cost c.in_err-side.ensures.cost)

pub returns-in_err-push-clause-cost : goal.returns-in_err-push-clause-cost
returns-in_err-push-clause-cost g c =
    let s : ℕ = side_cost (length c.args.left.now + length c.args.right.now) in
    sides_within (c.loop-j.j + 1) (length c.args.types.now) s c.args.steps.now c.one_side.new.steps (omega arith) (one_more c.loop-j.j s c.args.steps.now c.loop-j.steps c.one_side.new.steps c.loop-j.invariant.cost c.in_ok-side.ensures.cost)

pub returns-clause-cost : goal.returns-clause-cost
returns-clause-cost g c =
    let s : ℕ = side_cost (length c.args.left.now + length c.args.right.now) in
    sides_within c.loop-j.j (length c.args.types.now) s c.args.steps.now c.loop-j.steps (omega arith) c.loop-j.invariant.cost

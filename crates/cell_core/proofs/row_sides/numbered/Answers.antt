use Rattle.std.proofs.Common.{◌≡◌, ℕ, ◌+◌, ◌++◌, ◌∷◌, [], length, map, get_or, arith, refl, subst, sym, ap, ◌∙◌, inl, inr}
use Rattle.std.proofs.lemmas.Bool.{cases_lt}
use Rattle.std.proofs.lemmas.List.{get_or_append_left, get_or_push, length_push, get_or_read}
use Rattle.std.proofs.lemmas.List.Elements.{All-map}
use Rattle.interval_core.specs.Members.{HasEndsIn}
use Rattle.cell_core.specs.Boxes.{IsBox}
use Rattle.cell_core.specs.Cells.{side_of}
use Rattle.cell_core.specs.Costs.{side_cost}
use Rattle.cell_core.specs.Numbering.{IsSide}
use Rattle.cell_core.proofs.BackLemmas.{boxes_length, boxes_ends}
use Rattle.cell_core.proofs.StepLemmas.{one_more, sides_within, numbering_bound}
use Rattle.cell_core.proofs.row_sides.numbered.Goals as goal

pub row_side-requires-clause-left : goal.row_side-requires-clause-left
row_side-requires-clause-left g c = λ k s h.
    let box = IsBox g.T.PointType.IsPoint c.args.types.now in
    let e = boxes_length g.T.PointType.IsPoint c.args.types.now (map (λ r. r.1) c.args.left.now) (All-map box (λ r. r.1) c.args.left.now c.requires.left) k s h in
    let l = c.loop-j-test.true in
    omega arith

pub row_side-requires-clause-right : goal.row_side-requires-clause-right
row_side-requires-clause-right g c = λ k s h.
    let box = IsBox g.T.PointType.IsPoint c.args.types.now in
    let e = boxes_length g.T.PointType.IsPoint c.args.types.now (map (λ r. r.1) c.args.right.now) (All-map box (λ r. r.1) c.args.right.now c.requires.right) k s h in
    let l = c.loop-j-test.true in
    omega arith

pub row_side-requires-clause-left_points : goal.row_side-requires-clause-left_points
row_side-requires-clause-left_points g c = λ k s h d.
    let has = g.T.PointType.IsPoint in
    let box = IsBox has c.args.types.now in
    let all = map (λ r. r.1) c.args.left.now in
    subst (λ u. HasEndsIn has u (get_or (get_or all k s) c.loop-j.j d)) (sym c.index-types-j.is)
    (boxes_ends has c.args.types.now all (All-map box (λ r. r.1) c.args.left.now c.requires.left) k s h c.loop-j.j c.index-types-j.result d c.loop-j-test.true)

pub row_side-requires-clause-right_points : goal.row_side-requires-clause-right_points
row_side-requires-clause-right_points g c = λ k s h d.
    let has = g.T.PointType.IsPoint in
    let box = IsBox has c.args.types.now in
    let all = map (λ r. r.1) c.args.right.now in
    subst (λ u. HasEndsIn has u (get_or (get_or all k s) c.loop-j.j d)) (sym c.index-types-j.is)
    (boxes_ends has c.args.types.now all (All-map box (λ r. r.1) c.args.right.now c.requires.right) k s h c.loop-j.j c.index-types-j.result d c.loop-j-test.true)

pub loop-j-preserved : goal.loop-j-preserved
loop-j-preserved g c =
    let out = c.loop-j.out.items in
    let all = map (λ r. r.1) c.args.left.now ++ map (λ r. r.1) c.args.right.now in
    let push = c.in_ok-push.ensures.items in
    record {
      count = ap length push ∙ length_push out c.in_ok-side.side ∙ ap (λ m. m + 1) c.loop-j.invariant.count;
      sides = λ j t d e h.
          let len = c.loop-j.invariant.count in
          elim (cases_lt j c.loop-j.j) [
            | inl l ↦ subst (λ v. IsSide g.T.PointType.number_of (g.T.PointType.IsPoint (get_or c.args.types.now j t)) (g.T.PointType.last_number (get_or c.args.types.now j t)) (map (side_of j d) all) v) (sym (ap (λ ys. get_or ys j e) push ∙ get_or_append_left out (c.in_ok-side.side ∷ []) e j (omega arith))) (c.loop-j.invariant.sides j t d e l)
            | inr l ↦
                let q : c.loop-j.j ≡ j = omega arith in
                let last = get_or_push out c.in_ok-side.side e c.loop-j.j len in
                subst (λ m. IsSide g.T.PointType.number_of (g.T.PointType.IsPoint (get_or c.args.types.now m t)) (g.T.PointType.last_number (get_or c.args.types.now m t)) (map (side_of m d) all) (get_or c.push.new.self.items m e)) q
                (subst (λ v. IsSide g.T.PointType.number_of (g.T.PointType.IsPoint (get_or c.args.types.now c.loop-j.j t)) (g.T.PointType.last_number (get_or c.args.types.now c.loop-j.j t)) (map (side_of c.loop-j.j d) all) v) (sym (ap (λ ys. get_or ys c.loop-j.j e) push ∙ last))
                (subst (λ m. IsSide g.T.PointType.number_of (g.T.PointType.IsPoint m) (g.T.PointType.last_number m) (map (side_of c.loop-j.j d) all) c.in_ok-side.side) (get_or_read c.args.types.now c.loop-j.j c.index-types-j.result c.loop-j-test.true c.index-types-j.is t) (c.in_ok-side.ensures.side d)))
          ];
      cost = one_more c.loop-j.j (side_cost (length c.args.left.now + length c.args.right.now)) c.args.steps.now c.loop-j.steps c.row_side.new.steps c.loop-j.invariant.cost c.in_ok-side.ensures.cost;
    }

pub returns-clause-sides : goal.returns-clause-sides
returns-clause-sides g c = λ j t d e h. c.loop-j.invariant.sides j t d e (omega arith)

pub returns-in_err-side-clause-numbering : goal.returns-in_err-side-clause-numbering
returns-in_err-side-clause-numbering g c =
    let s : ℕ = side_cost (length c.args.left.now + length c.args.right.now) in
    sides_within (c.loop-j.j + 1) (length c.args.types.now) s c.args.steps.now c.row_side.new.steps (omega arith) (one_more c.loop-j.j s c.args.steps.now c.loop-j.steps c.row_side.new.steps c.loop-j.invariant.cost c.in_err-side.ensures.cost)

pub returns-in_err-side-clause-cost : goal.returns-in_err-side-clause-cost
returns-in_err-side-clause-cost g c =
    let a : ℕ = length c.args.left.now in
    let b : ℕ = length c.args.right.now in
    numbering_bound a b a b (length c.args.types.now) c.args.steps.now c.row_side.new.steps refl refl
    (sides_within (c.loop-j.j + 1) (length c.args.types.now) (side_cost (a + b)) c.args.steps.now c.row_side.new.steps (omega arith) (one_more c.loop-j.j (side_cost (a + b)) c.args.steps.now c.loop-j.steps c.row_side.new.steps c.loop-j.invariant.cost c.in_err-side.ensures.cost))

pub returns-in_err-push-clause-numbering : goal.returns-in_err-push-clause-numbering
returns-in_err-push-clause-numbering g c =
    let s : ℕ = side_cost (length c.args.left.now + length c.args.right.now) in
    sides_within (c.loop-j.j + 1) (length c.args.types.now) s c.args.steps.now c.row_side.new.steps (omega arith) (one_more c.loop-j.j s c.args.steps.now c.loop-j.steps c.row_side.new.steps c.loop-j.invariant.cost c.in_ok-side.ensures.cost)

pub returns-in_err-push-clause-cost : goal.returns-in_err-push-clause-cost
returns-in_err-push-clause-cost g c =
    let a : ℕ = length c.args.left.now in
    let b : ℕ = length c.args.right.now in
    numbering_bound a b a b (length c.args.types.now) c.args.steps.now c.row_side.new.steps refl refl
    (sides_within (c.loop-j.j + 1) (length c.args.types.now) (side_cost (a + b)) c.args.steps.now c.row_side.new.steps (omega arith) (one_more c.loop-j.j (side_cost (a + b)) c.args.steps.now c.loop-j.steps c.row_side.new.steps c.loop-j.invariant.cost c.in_ok-side.ensures.cost))

pub returns-clause-numbering : goal.returns-clause-numbering
returns-clause-numbering g c =
    let s : ℕ = side_cost (length c.args.left.now + length c.args.right.now) in
    sides_within c.loop-j.j (length c.args.types.now) s c.args.steps.now c.loop-j.steps (omega arith) c.loop-j.invariant.cost

pub returns-clause-cost : goal.returns-clause-cost
returns-clause-cost g c =
    let a : ℕ = length c.args.left.now in
    let b : ℕ = length c.args.right.now in
    numbering_bound a b a b (length c.args.types.now) c.args.steps.now c.loop-j.steps refl refl
    (sides_within c.loop-j.j (length c.args.types.now) (side_cost (a + b)) c.args.steps.now c.loop-j.steps (omega arith) c.loop-j.invariant.cost)

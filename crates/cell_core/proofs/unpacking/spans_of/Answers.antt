use Rattle.std.proofs.Common.{◌≡◌, ◌≤ℤ◌, ◌+◌, ◌∷◌, ◌++◌, [], suc, length, get_or, take, arith, subst, sym, ap, ◌∙◌}
use Rattle.std.proofs.lemmas.List.Elements.{All-same, All-push}
use Rattle.interval_core.specs.Members.{HasEndsIn}
use Rattle.cell_core.specs.Cells.{box_numbers}
use Rattle.cell_core.proofs.BackLemmas.{box_length, box_ends}
use Rattle.cell_core.proofs.KeyLemmas.{take_whole}
use Rattle.cell_core.proofs.GridPointLemmas.{one_more_span}
use Rattle.cell_core.proofs.unpacking.spans_of.Goals as goal

pub index-requires : goal.index-requires
index-requires g c =
    let e = ap length c.sides.view_is in
    let n = box_length g.T.PointType.IsPoint c.args.types.now c.args.sides.now c.requires in
    let h = c.loop-j-test.true in
    let l = c.sides.inside.list.ok.0 in
    omega arith

pub span_of-requires : goal.span_of-requires
span_of-requires g c =
    let has = g.T.PointType.IsPoint in
    let types = c.args.types.now in
    let t = c.index-types-j.result in
    let x = c.index.result.now in
    let at = ap (λ ys. get_or ys c.loop-j.j x) (sym c.sides.view_is) ∙ sym c.index.ensures in
    subst (λ u. HasEndsIn has u x) (sym c.index-types-j.is) (subst (HasEndsIn has (get_or types c.loop-j.j t)) at (box_ends has types c.args.sides.now c.requires c.loop-j.j t x c.loop-j-test.true))

pub loop-j-preserved : goal.loop-j-preserved
loop-j-preserved g c =
    let n = g.T.PointType.number_of in
    let j = c.loop-j.j in
    let x = c.index.result.now in
    let push = c.in_ok-push.ensures.items in
    let at : get_or c.args.sides.now j x ≡ x = ap (λ ys. get_or ys j x) (sym c.sides.view_is) ∙ sym c.index.ensures in
    let many = box_length g.T.PointType.IsPoint c.args.types.now c.args.sides.now c.requires in
    let h = c.loop-j-test.true in
    let s : suc j ≡ j + 1 = omega arith in
    record {
      numbers = push ∙ (λ t. c.loop-j.invariant.numbers t ++ c.span_of.ensures.numbers t ∷ []) ∙ sym (one_more_span n c.args.sides.now j x (omega arith) (sym at)) ∙ ap (λ m. box_numbers n (take m c.args.sides.now)) s;
      ordered = All-same (λ i. i.0 ≤ℤ i.1) c.push.new.self.items (c.loop-j.out.items ++ c.span_of.result ∷ []) push (All-push (λ i. i.0 ≤ℤ i.1) c.loop-j.out.items c.span_of.result c.loop-j.invariant.ordered c.span_of.ensures.ordered);
    }

pub returns-clause-numbers : goal.returns-clause-numbers
returns-clause-numbers g c =
    let many = box_length g.T.PointType.IsPoint c.args.types.now c.args.sides.now c.requires in
    let h = c.loop-j-test.false in
    c.loop-j.invariant.numbers ∙ ap (box_numbers g.T.PointType.number_of) (take_whole c.args.sides.now c.loop-j.j (omega arith))

pub returns-clause-ordered : goal.returns-clause-ordered
returns-clause-ordered g c = c.loop-j.invariant.ordered

use Rattle.std.proofs.Common.{[], ◌∷◌, length, get_or, arith, sym, ap, ◌∙◌}
use Rattle.u_summarize.proofs.PointCellLemmas.{one_side_count, one_side_at}
use Rattle.u_summarize.proofs.point_cells.ends_of.Goals as goal

pub index-requires : goal.index-requires
index-requires g c =
    let e = ap length c.sides.view_is in
    let n = one_side_count g.T.PointType.number_of g.T.PointType.IsPoint c.args.t.now c.args.sides.now c.requires in
    let l = c.sides.inside.list.ok.0 in
    omega arith

pub span_of-requires : goal.span_of-requires
span_of-requires g c =
    let x = c.index.result.now in
    (one_side_at g.T.PointType.number_of g.T.PointType.IsPoint c.args.t.now c.args.sides.now c.requires x (c.index.ensures ∙ ap (λ ys. get_or ys 0 x) c.sides.view_is)).0

pub returns-clause-numbers : goal.returns-clause-numbers
returns-clause-numbers g c =
    let x = c.index.result.now in
    (one_side_at g.T.PointType.number_of g.T.PointType.IsPoint c.args.t.now c.args.sides.now c.requires x (c.index.ensures ∙ ap (λ ys. get_or ys 0 x) c.sides.view_is)).1
    ∙ ap (λ i. i ∷ []) (sym c.span_of.ensures.numbers)

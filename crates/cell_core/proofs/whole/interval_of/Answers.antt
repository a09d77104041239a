use Rattle.std.proofs.Common.{◌≡◌, ℕ, suc, ◌-◌, List, get_or, arith, ap, ◌∙◌}
use Rattle.cell_core.specs.Numbering.{numbers_of}
use Rattle.cell_core.proofs.CellsBack.{in_order, numbers_back}
use Rattle.cell_core.proofs.whole.interval_of.Goals as goal

pub of-requires : goal.of-requires
of-requires g c =
    let m : ℕ = c.args.cells.1 - 1 in
    let e : suc m ≡ c.args.cells.1 = omega arith in
    in_order g.T.PointType.number_of (g.T.PointType.IsPoint c.args.t.now) (g.T.PointType.last_number c.args.t.now) c.args.side.now c.requires.side c.args.cells.0 c.args.cells.1 m c.index-begin.result.now c.index-end.result.now c.requires.some c.requires.within e
    (c.index-begin.ensures ∙ ap (λ (s : List g.row.T-Point.Denot × List g.row.T-Point.Denot × List (ℕ × ℕ)). get_or s.0 c.args.cells.0 c.index-begin.result.now) c.side.view_is)
    (c.index-end.ensures ∙ ap (λ (s : List g.row.T-Point.Denot × List g.row.T-Point.Denot × List (ℕ × ℕ)). get_or s.1 m c.index-end.result.now) c.side.view_is)

pub returns-clause-numbers : goal.returns-clause-numbers
returns-clause-numbers g c =
    let m : ℕ = c.args.cells.1 - 1 in
    let e : suc m ≡ c.args.cells.1 = omega arith in
    ap (numbers_of g.T.PointType.number_of) c.of.ensures
    ∙ numbers_back g.T.PointType.number_of (g.T.PointType.IsPoint c.args.t.now) (g.T.PointType.last_number c.args.t.now) c.args.side.now c.requires.side c.args.cells.0 c.args.cells.1 m c.index-begin.result.now c.index-end.result.now c.requires.some c.requires.within e
    (c.index-begin.ensures ∙ ap (λ (s : List g.row.T-Point.Denot × List g.row.T-Point.Denot × List (ℕ × ℕ)). get_or s.0 c.args.cells.0 c.index-begin.result.now) c.side.view_is)
    (c.index-end.ensures ∙ ap (λ (s : List g.row.T-Point.Denot × List g.row.T-Point.Denot × List (ℕ × ℕ)). get_or s.1 m c.index-end.result.now) c.side.view_is)

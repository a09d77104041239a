use Rattle.std.proofs.Common.{◌≡◌, ◌⊎◌, inl, inr, ℤ, List, ◌++◌, map, get_or, Err, Some, refl, arith, sym, ap, ◌∙◌, subst}
use Rattle.interval_core.specs.Members.{Span}
use Rattle.cell_packing.specs.Covering.{Among}
use Rattle.cell_packing.specs.Packed.{Has, firsts}
use Rattle.cell_packing.proofs.AmongLemmas.{among_map}
use Rattle.cell_sweep.proofs.Turns.{least_iff}
use Rattle.cell_core.specs.Boxes.{IsBox}
use Rattle.cell_core.specs.Cells.{box_numbers, boxes_of, row_numbers}
use Rattle.u_row.specs.Cutting.{AreCuts, AreCutsFrom, cells_of}
use Rattle.u_row.specs.Rules.{labelled}
use Rattle.u_row.proofs.AllRowsLemmas.{given_places, given_few}
use Rattle.u_row.proofs.CellLemmas.{are_cuts}
use Rattle.u_row.proofs.RuleLemmas.{cell_faults}
use Rattle.u_row.proofs.rows.give_row.Goals as goal

pub give_cells-requires-clause-cells : goal.give_cells-requires-clause-cells
give_cells-requires-clause-cells g c = λ s m.
    let n = g.T.PointType.number_of in
    let cuts = g.R.RowRule.cuts_of c.args.rule.now c.args.row in
    let all = c.in_ok-cells.ensures.cells in
    subst (λ ss. Among (box_numbers n s) (cells_of cuts (box_numbers n ss))) (sym c.requires.sides)
    (subst (λ ys. Among (box_numbers n s) ys) all ((among_map (box_numbers n) (box_numbers n s) c.in_ok-cells.cells.items).1 (s, m, refl)))

pub give_cells-requires-clause-points : goal.give_cells-requires-clause-points
give_cells-requires-clause-points g c = λ s m. (
  c.args.types.now,
  subst (IsBox g.T.PointType.IsPoint c.args.types.now) (sym c.requires.sides) c.requires.boxes,
  c.in_ok-cells.ensures.points s m,
)

pub returns-clause-rows : goal.returns-clause-rows
returns-clause-rows g c =
    let n = g.T.PointType.number_of in
    c.in_ok-give_cells.ensures.rows ∙ ap (λ ys. map (row_numbers n) c.args.out.now.items ++ labelled (g.R.RowRule.means c.args.rule.now c.args.row) ys) c.in_ok-cells.ensures.cells

pub returns-clause-boxes : goal.returns-clause-boxes
returns-clause-boxes g c =
    c.in_ok-give_cells.ensures.boxes c.args.types.now (λ s m. c.in_ok-cells.ensures.points s m)

pub returns-clause-few : goal.returns-clause-few
returns-clause-few g c =
    let n = g.T.PointType.number_of in
    let f = g.R.RowRule.means c.args.rule.now c.args.row in
    let cells = cells_of (g.R.RowRule.cuts_of c.args.rule.now c.args.row) (box_numbers n c.args.sides.now) in
    let all = c.in_ok-cells.ensures.cells in
    given_few n f cells c.args.out.now.items c.give_cells.new.out.items
    (c.in_ok-give_cells.ensures.rows ∙ ap (λ ys. map (row_numbers n) c.args.out.now.items ++ labelled f ys) all)

pub returns-clause-places : goal.returns-clause-places
returns-clause-places g c =
    let n = g.T.PointType.number_of in
    let rule = c.args.rule.now in
    let row = c.args.row in
    let f = g.R.RowRule.means rule row in
    let cuts = g.R.RowRule.cuts_of rule row in
    let sides = g.R.RowRule.sides rule row in
    let all = c.in_ok-cells.ensures.cells in
    let cut : AreCutsFrom cuts 0 (box_numbers n sides) = are_cuts n cuts sides 0 (λ i r d l e.
    let q : i ≡ r = omega arith in
    (g.met.R.RowRule.ordered rule row i d c.requires.can l, subst (λ m. AreCuts (n (get_or sides i d).0) (n (get_or sides i d).1) (cuts m)) q (g.met.R.RowRule.inside rule row i d c.requires.can l))) in
    let h : AreCutsFrom cuts 0 (box_numbers n c.args.sides.now) = subst (λ ss. AreCutsFrom cuts 0 (box_numbers n ss)) c.requires.sides cut in
    given_places f cuts (box_numbers n c.args.sides.now) h
    (λ cell ps qs m a b. g.met.R.RowRule.steady rule row cell ps qs c.requires.can (subst (λ ss. Among cell (cells_of cuts (box_numbers n ss))) (sym c.requires.sides) m) a b)
    (map (row_numbers n) c.args.out.now.items) (map (row_numbers n) c.give_cells.new.out.items)
    (c.in_ok-give_cells.ensures.rows ∙ ap (λ ys. map (row_numbers n) c.args.out.now.items ++ labelled f ys) all)

pub returns-clause-least : goal.returns-clause-least
returns-clause-least g c =
    let n = g.T.PointType.number_of in
    let rule = c.args.rule.now in
    let row = c.args.row in
    let f = g.R.RowRule.means rule row in
    let cuts = g.R.RowRule.cuts_of rule row in
    let sides = g.R.RowRule.sides rule row in
    let all = c.in_ok-cells.ensures.cells in
    let cut : AreCutsFrom cuts 0 (box_numbers n sides) = are_cuts n cuts sides 0 (λ i r d l e.
    let q : i ≡ r = omega arith in
    (g.met.R.RowRule.ordered rule row i d c.requires.can l, subst (λ m. AreCuts (n (get_or sides i d).0) (n (get_or sides i d).1) (cuts m)) q (g.met.R.RowRule.inside rule row i d c.requires.can l))) in
    let h : AreCutsFrom cuts 0 (box_numbers n c.args.sides.now) = subst (λ ss. AreCutsFrom cuts 0 (box_numbers n ss)) c.requires.sides cut in
    least_iff (λ e. (c.args.least.now ≡ Some e) ⊎ ((cell : List Span) × Among cell (boxes_of n c.in_ok-cells.cells.items) × (f (firsts cell) ≡ Err e)))
    (λ e. (c.args.least.now ≡ Some e) ⊎ ((place : List ℤ) × Has (box_numbers n c.args.sides.now) place × (f place ≡ Err e))) c.give_cells.new.least (λ d.
    let w = cell_faults f cuts (box_numbers n c.args.sides.now) h (λ cell ps qs m a b. g.met.R.RowRule.steady rule row cell ps qs c.requires.can (subst (λ ss. Among cell (cells_of cuts (box_numbers n ss))) (sym c.requires.sides) m) a b) d in (
      λ q. elim q [ inl p ↦ inl p | inr v ↦ inr (w.0 (v.0, subst (λ ys. Among v.0 ys) all v.1, v.2)) ],
      λ q. elim q [ inl p ↦ inl p | inr v ↦ let u = w.1 v in inr (u.0, subst (λ ys. Among u.0 ys) (sym all) u.1, u.2) ],
    )) c.in_ok-give_cells.ensures.least

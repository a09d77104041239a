use Rattle.std.proofs.Common.{◌≡◌, ◌-◌, ◌∷◌, ◌++◌, [], map, length, get_or, arith, subst, sym, ap, ◌∙◌}
use Rattle.std.proofs.lemmas.List.Elements.{All-same}
use Rattle.interval_core.specs.Members.{HasEndsIn}
use Rattle.cell_packing.specs.Covering.{Among}
use Rattle.cell_core.specs.Cells.{box_numbers, boxes_of}
use Rattle.cell_core.specs.Numbering.{numbers_of}
use Rattle.cell_core.proofs.BackLemmas.{box_length, box_ends}
use Rattle.u_row.proofs.CuttingLemmas.{product_step, product_boxes, cuts_step, cuts_rest, no_side, bare_box}
use Rattle.u_row.proofs.cells.row_cells.Goals as goal

pub loop-j-init : goal.loop-j-init
loop-j-init g c =
    let n = g.T.PointType.number_of in
    let box = c.args.sides.now in
    let k = length c.args.types.now in
    let one = c.in_ok-push.ensures.items ∙ (λ t. c.new-out.ensures.items t ++ c.new.ensures.items t ∷ []) in
    record {
      within = omega arith;
      cells = ap (boxes_of n) one ∙ no_side n (g.R.RowRule.cuts_of c.args.rule.now c.args.row) box k (box_length g.T.PointType.IsPoint c.args.types.now box c.requires.boxes);
      points = λ s m. bare_box g.T.PointType.IsPoint c.args.types.now s (subst (Among s) one m);
      cost = omega arith;
    }

pub index-requires : goal.index-requires
index-requires g c =
    let e = ap length c.sides.view_is in
    let n = box_length g.T.PointType.IsPoint c.args.types.now c.args.sides.now c.requires.boxes in
    let h = c.loop-j-test.true in
    let w = c.loop-j.invariant.within in
    let l = c.sides.inside.list.ok.0 in
    omega arith

pub side_pieces-requires-clause-below : goal.side_pieces-requires-clause-below
side_pieces-requires-clause-below g c =
    let e = ap length c.requires.sides in
    let n = box_length g.T.PointType.IsPoint c.args.types.now c.args.sides.now c.requires.boxes in
    let h = c.loop-j-test.true in
    let w = c.loop-j.invariant.within in
    omega (arith, e, n, h, w)

pub side_pieces-requires-clause-ends : goal.side_pieces-requires-clause-ends
side_pieces-requires-clause-ends g c =
    let has = g.T.PointType.IsPoint in
    let types = c.args.types.now in
    let t = c.index-types-j.result in
    let x = c.index.result.now in
    let j = c.loop-j.j - 1 in
    let h = c.loop-j-test.true in
    let w = c.loop-j.invariant.within in
    let at = ap (λ ys. get_or ys j x) (sym c.sides.view_is) ∙ sym c.index.ensures in
    subst (λ u. HasEndsIn has u x) (sym c.index-types-j.is) (subst (HasEndsIn has (get_or types j t)) at (box_ends has types c.args.sides.now c.requires.boxes j t x (omega (arith, h, w))))

pub returns-in_err-pieces-clause-cost : goal.returns-in_err-pieces-clause-cost
returns-in_err-pieces-clause-cost g c =
    let n = g.T.PointType.number_of in
    let cuts = g.R.RowRule.cuts_of c.args.rule.now c.args.row in
    let box = c.args.sides.now in
    let x = c.index.result.now in
    let j = c.loop-j.j - 1 in
    let h = c.loop-j-test.true in
    let w = c.loop-j.invariant.within in
    let many = box_length g.T.PointType.IsPoint c.args.types.now box c.requires.boxes in
    let at : get_or box j x ≡ x = ap (λ ys. get_or ys j x) (sym c.sides.view_is) ∙ sym c.index.ensures in
    let more = cuts_step n cuts box c.loop-j.j j x (omega (arith, h)) (omega (arith, h, w, many)) (sym at) in
    let rest = cuts_rest cuts 0 (box_numbers n box) j j (omega arith) in
    let took = c.side_pieces.ensures.cost in
    let before = c.loop-j.invariant.cost in
    omega (arith, more, rest, took, before)

pub returns-in_err-out-clause-cost : goal.returns-in_err-out-clause-cost
returns-in_err-out-clause-cost g c =
    let n = g.T.PointType.number_of in
    let cuts = g.R.RowRule.cuts_of c.args.rule.now c.args.row in
    let box = c.args.sides.now in
    let x = c.index.result.now in
    let j = c.loop-j.j - 1 in
    let h = c.loop-j-test.true in
    let w = c.loop-j.invariant.within in
    let many = box_length g.T.PointType.IsPoint c.args.types.now box c.requires.boxes in
    let at : get_or box j x ≡ x = ap (λ ys. get_or ys j x) (sym c.sides.view_is) ∙ sym c.index.ensures in
    let more = cuts_step n cuts box c.loop-j.j j x (omega (arith, h)) (omega (arith, h, w, many)) (sym at) in
    let rest = cuts_rest cuts 0 (box_numbers n box) j j (omega arith) in
    let took = c.side_pieces.ensures.cost in
    let before = c.loop-j.invariant.cost in
    omega (arith, more, rest, took, before)

pub loop-j-preserved : goal.loop-j-preserved
loop-j-preserved g c =
    let n = g.T.PointType.number_of in
    let has = g.T.PointType.IsPoint in
    let types = c.args.types.now in
    let cuts = g.R.RowRule.cuts_of c.args.rule.now c.args.row in
    let box = c.args.sides.now in
    let t = c.index-types-j.result in
    let x = c.index.result.now in
    let j = c.loop-j.j - 1 in
    let h = c.loop-j-test.true in
    let w = c.loop-j.invariant.within in
    let many = box_length has types box c.requires.boxes in
    let at : get_or box j x ≡ x = ap (λ ys. get_or ys j x) (sym c.sides.view_is) ∙ sym c.index.ensures in
    let more = cuts_step n cuts box c.loop-j.j j x (omega (arith, h)) (omega (arith, h, w, many)) (sym at) in
    let took = c.side_pieces.ensures.cost in
    let before = c.loop-j.invariant.cost in
    record {
      within = omega (arith, w);
      cells = ap (boxes_of n) c.in_ok-out.ensures
          ∙ product_step n cuts box c.loop-j.j j x (omega (arith, h)) (omega (arith, h, w, many)) (sym at) c.as_slice.result.now c.as_slice-in-loop-j.result.now
          (ap (map (numbers_of n)) c.as_slice.ensures.value ∙ c.in_ok-pieces.ensures.pieces) (ap (boxes_of n) c.as_slice-in-loop-j.ensures.value ∙ c.loop-j.invariant.cells);
      points = λ s m.
          product_boxes has types c.loop-j.j j t (omega (arith, h)) (omega (arith, h, w)) c.index-types-j.is c.as_slice.result.now c.as_slice-in-loop-j.result.now
          (All-same (HasEndsIn has t) c.as_slice.result.now c.in_ok-pieces.pieces.items c.as_slice.ensures.value c.in_ok-pieces.ensures.points)
          (λ q r. c.loop-j.invariant.points q (subst (Among q) c.as_slice-in-loop-j.ensures.value r)) s (subst (Among s) c.in_ok-out.ensures m);
      cost = omega (arith, more, took, before);
    }

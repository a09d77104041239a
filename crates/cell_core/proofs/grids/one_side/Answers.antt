use Rattle.std.proofs.Common.{◌≡◌, ◌++◌, ◌+◌, ◌≤◌, length, map, arith, subst, ap, ◌∙◌}
use Rattle.std.proofs.lemmas.List.Elements.{All-same}
use Rattle.cell_core.specs.Costs.{side_cost}
use Rattle.cell_core.specs.Numbering.{IsSide}
use Rattle.cell_core.specs.Cells.{side_of}
use Rattle.cell_core.proofs.Gather.{gather_both, all_gathered}
use Rattle.cell_core.proofs.grids.one_side.Goals as goal

pub numbering-requires-clause-begins : goal.numbering-requires-clause-begins
numbering-requires-clause-begins g c = λ k d h.
    let left = c.args.left.now in
    let right = c.args.right.now in
    let e = c.as_slice.ensures.value ∙ gather_both c.args.side d left right c.in_ok-spans.spans.items c.push_sides.new.out.items c.push_sides-2.new.out.items c.in_ok-spans.ensures.items (c.in_ok-push_sides.ensures.items d) (c.in_ok-push_sides-2.ensures.items d) in
    All-same (λ x. g.T.PointType.IsPoint c.args.t.now x.0) c.as_slice.result.now (map (side_of c.args.side d) (left ++ right)) e
    (all_gathered (λ x. g.T.PointType.IsPoint c.args.t.now x.0) c.args.side d left right (λ i s l. c.requires.left_begins i s l d) (λ i s l. c.requires.right_begins i s l d)) k d h

pub numbering-requires-clause-ends : goal.numbering-requires-clause-ends
numbering-requires-clause-ends g c = λ k d h.
    let left = c.args.left.now in
    let right = c.args.right.now in
    let e = c.as_slice.ensures.value ∙ gather_both c.args.side d left right c.in_ok-spans.spans.items c.push_sides.new.out.items c.push_sides-2.new.out.items c.in_ok-spans.ensures.items (c.in_ok-push_sides.ensures.items d) (c.in_ok-push_sides-2.ensures.items d) in
    All-same (λ x. g.T.PointType.IsPoint c.args.t.now x.1) c.as_slice.result.now (map (side_of c.args.side d) (left ++ right)) e
    (all_gathered (λ x. g.T.PointType.IsPoint c.args.t.now x.1) c.args.side d left right (λ i s l. c.requires.left_ends i s l d) (λ i s l. c.requires.right_ends i s l d)) k d h

pub returns-clause-side : goal.returns-clause-side
returns-clause-side g c = λ d.
    let left = c.args.left.now in
    let right = c.args.right.now in
    let e = c.as_slice.ensures.value ∙ gather_both c.args.side d left right c.in_ok-spans.spans.items c.push_sides.new.out.items c.push_sides-2.new.out.items c.in_ok-spans.ensures.items (c.in_ok-push_sides.ensures.items d) (c.in_ok-push_sides-2.ensures.items d) in
    subst (λ spans. IsSide g.T.PointType.number_of (g.T.PointType.IsPoint c.args.t.now) (g.T.PointType.last_number c.args.t.now) spans c.in_ok-v.v) e c.in_ok-v.ensures.side

pub numbering-requires-clause-few : goal.numbering-requires-clause-few
numbering-requires-clause-few g c =
    let a = c.in_ok-push_sides.ensures.length in
    let b = c.in_ok-push_sides-2.ensures.length in
    let z = ap length c.in_ok-spans.ensures.items in
    let e = ap length c.as_slice.ensures.value in
    omega arith

pub returns-in_err-v-clause-cost : goal.returns-in_err-v-clause-cost
returns-in_err-v-clause-cost g c =
    let a = c.in_ok-push_sides.ensures.length in
    let b = c.in_ok-push_sides-2.ensures.length in
    let z = ap length c.in_ok-spans.ensures.items in
    let e = ap length c.as_slice.ensures.value in
    let l : length c.as_slice.result.now ≡ length c.args.left.now + length c.args.right.now = omega arith in
    subst (λ m. c.numbering.new.steps ≤ c.args.steps.now + side_cost m) l c.in_err-v.ensures.cost

pub returns-clause-cost : goal.returns-clause-cost
returns-clause-cost g c =
    let a = c.in_ok-push_sides.ensures.length in
    let b = c.in_ok-push_sides-2.ensures.length in
    let z = ap length c.in_ok-spans.ensures.items in
    let e = ap length c.as_slice.ensures.value in
    let l : length c.as_slice.result.now ≡ length c.args.left.now + length c.args.right.now = omega arith in
    subst (λ m. c.numbering.new.steps ≤ c.args.steps.now + side_cost m) l c.in_ok-v.ensures.cost

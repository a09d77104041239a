use Rattle.std.proofs.Common.{◌≡◌, ◌+◌, ◌≤◌, ◌++◌, length, arith, ◌∙◌}
use Rattle.std.proofs.lemmas.Int.{ints}
use Rattle.std.proofs.lemmas.List.Elements.{All-same}
use Rattle.cell_core.specs.Cells.{keys_from}
use Rattle.cell_core.specs.Boxes.{IsBox}
use Rattle.cell_core.proofs.Gather.{numbered_same}
use Rattle.cell_core.proofs.FormLemmas.{left_full, right_full, left_lengths, right_lengths}
use Rattle.cell_core.proofs.over_cells.moved_over_cells.Goals as goal

pub numbered-requires-clause-left : goal.numbered-requires-clause-left
numbered-requires-clause-left g c = All-same (λ r. IsBox g.T.PointType.IsPoint c.args.types.now r.1) c.as_slice.result.now c.args.left.items c.as_slice.ensures.value c.requires.left

pub numbered-requires-clause-right : goal.numbered-requires-clause-right
numbered-requires-clause-right g c = All-same (λ r. IsBox g.T.PointType.IsPoint c.args.types.now r.1) c.as_slice-2.result.now c.args.right.items c.as_slice-2.ensures.value c.requires.right

pub push_moved_keys-requires-clause-full : goal.push_moved_keys-requires-clause-full
push_moved_keys-requires-clause-full g c =
    All-same (λ s. 0 + length c.args.left.items ≤ length s.2) c.as_slice-3.result.now c.in_ok-sides.sides.items c.as_slice-3.ensures.value
    (left_full g.row.P.Denot g.T.PointType.number_of g.T.PointType.IsPoint g.T.PointType.last_number (λ t. (g.met.T.PointType.each t (g.T.PointType.first_number t) (omega (arith, ints)) (g.met.T.PointType.nonempty t)).0) c.args.types.now c.in_ok-sides.sides.items c.args.left.items c.args.right.items c.in_ok-sides.ensures.length (numbered_same g.T.PointType.number_of g.T.PointType.IsPoint g.T.PointType.last_number c.args.types.now c.as_slice.result.now c.args.left.items c.as_slice-2.result.now c.args.right.items c.in_ok-sides.sides.items c.as_slice.ensures.value c.as_slice-2.ensures.value c.in_ok-sides.ensures.sides) c.requires.left c.requires.right)

pub push_moved_keys-requires-2-clause-full : goal.push_moved_keys-requires-2-clause-full
push_moved_keys-requires-2-clause-full g c =
    let count : c.len-count.result ≡ length c.args.left.items = omega (arith, c.len-count.ensures) in
    All-same (λ s. c.len-count.result + length c.args.right.items ≤ length s.2) c.as_slice-4.result.now c.in_ok-sides.sides.items c.as_slice-4.ensures.value
    (right_full g.row.P.Denot g.T.PointType.number_of g.T.PointType.IsPoint g.T.PointType.last_number (λ t. (g.met.T.PointType.each t (g.T.PointType.first_number t) (omega (arith, ints)) (g.met.T.PointType.nonempty t)).0) c.args.types.now c.in_ok-sides.sides.items c.args.left.items c.args.right.items c.in_ok-sides.ensures.length (numbered_same g.T.PointType.number_of g.T.PointType.IsPoint g.T.PointType.last_number c.args.types.now c.as_slice.result.now c.args.left.items c.as_slice-2.result.now c.args.right.items c.in_ok-sides.sides.items c.as_slice.ensures.value c.as_slice-2.ensures.value c.in_ok-sides.ensures.sides) c.requires.left c.requires.right c.len-count.result count)

pub returns-clause-rows : goal.returns-clause-rows
returns-clause-rows g c =
    let count : c.len-count.result ≡ length c.args.left.items = omega (arith, c.len-count.ensures) in
    record {
      left_boxes = c.requires.left;
      right_boxes = c.requires.right;
      count = c.in_ok-sides.ensures.length;
      numbered = numbered_same g.T.PointType.number_of g.T.PointType.IsPoint g.T.PointType.last_number c.args.types.now c.as_slice.result.now c.args.left.items c.as_slice-2.result.now c.args.right.items c.in_ok-sides.sides.items c.as_slice.ensures.value c.as_slice-2.ensures.value c.in_ok-sides.ensures.sides;
      lefts = c.in_ok-push_moved_keys.ensures ∙ (λ i. c.new-l.ensures.items i ++ keys_from 0 c.args.left.items (c.as_slice-3.ensures.value i));
      rights = c.in_ok-push_moved_keys-2.ensures ∙ (λ i. c.new-r.ensures.items i ++ keys_from (count i) c.args.right.items (c.as_slice-4.ensures.value i));
    }

pub returns-clause-left_sides : goal.returns-clause-left_sides
returns-clause-left_sides g c =
    left_lengths g.row.P.Denot g.T.PointType.number_of g.T.PointType.IsPoint g.T.PointType.last_number (λ t. (g.met.T.PointType.each t (g.T.PointType.first_number t) (omega (arith, ints)) (g.met.T.PointType.nonempty t)).0) c.args.types.now c.in_ok-sides.sides.items c.args.left.items c.args.right.items c.in_ok-sides.ensures.length (numbered_same g.T.PointType.number_of g.T.PointType.IsPoint g.T.PointType.last_number c.args.types.now c.as_slice.result.now c.args.left.items c.as_slice-2.result.now c.args.right.items c.in_ok-sides.sides.items c.as_slice.ensures.value c.as_slice-2.ensures.value c.in_ok-sides.ensures.sides) c.requires.left c.requires.right
    c.push_moved_keys.new.out.items (c.in_ok-push_moved_keys.ensures ∙ (λ i. c.new-l.ensures.items i ++ keys_from 0 c.args.left.items (c.as_slice-3.ensures.value i)))

pub returns-clause-right_sides : goal.returns-clause-right_sides
returns-clause-right_sides g c =
    let count : c.len-count.result ≡ length c.args.left.items = omega (arith, c.len-count.ensures) in
    right_lengths g.row.P.Denot g.T.PointType.number_of g.T.PointType.IsPoint g.T.PointType.last_number (λ t. (g.met.T.PointType.each t (g.T.PointType.first_number t) (omega (arith, ints)) (g.met.T.PointType.nonempty t)).0) c.args.types.now c.in_ok-sides.sides.items c.args.left.items c.args.right.items c.in_ok-sides.ensures.length (numbered_same g.T.PointType.number_of g.T.PointType.IsPoint g.T.PointType.last_number c.args.types.now c.as_slice.result.now c.args.left.items c.as_slice-2.result.now c.args.right.items c.in_ok-sides.sides.items c.as_slice.ensures.value c.as_slice-2.ensures.value c.in_ok-sides.ensures.sides) c.requires.left c.requires.right
    c.push_moved_keys-2.new.out.items (c.in_ok-push_moved_keys-2.ensures ∙ (λ i. c.new-r.ensures.items i ++ keys_from (count i) c.args.right.items (c.as_slice-4.ensures.value i)))

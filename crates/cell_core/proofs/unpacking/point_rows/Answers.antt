use Rattle.std.proofs.Common.{rules, ◌++◌, ◌∷◌, [], map, length, subst, sym, ap, ◌∙◌}
use Rattle.std.proofs.lemmas.Iterator.Adapters.{YieldsList-from_vec}
use Rattle.std.proofs.lemmas.Iterator.Consumers.{YieldsList-turn}
use Rattle.std.proofs.lemmas.List.Elements.{All-same, All-push}
use Rattle.interval_core.specs.Members.{at_point}
use Rattle.cell_packing.specs.Covering.{Among}
use Rattle.cell_core.specs.Boxes.{IsBox}
use Rattle.cell_core.specs.Cells.{row_numbers}
use Rattle.cell_core.specs.GridPoints.{point_row, IsGridPointOf}
use Rattle.cell_core.proofs.BackLemmas.{among_get, map_push}
use Rattle.cell_core.proofs.unpacking.point_rows.Goals as goal

pub box_at-requires : goal.box_at-requires
box_at-requires g c =
    let xs = c.args.list.items in
    let t = YieldsList-turn (YieldsList-from_vec {s = c.into_iter-grid_point-iterator.result} xs (search rules) (search rules)) c.loop-grid_point.yielded c.loop-grid_point.grid_point-iterator c.loop-grid_point.yielded_by c.next.result c.next.new.self c.in-Some.grid_point c.in-Some.is c.next.ensures.steps in
    subst (IsGridPointOf g.T.PointType.first_number g.T.PointType.last_number c.args.types.now) (sym (ap (λ x. x.1) c.grid_point.view_is))
    (c.requires c.in-Some.grid_point (subst (λ x. Among x xs) (sym t.1) (among_get xs (length c.loop-grid_point.yielded) c.in-Some.grid_point t.0)))

pub loop-grid_point-preserved : goal.loop-grid_point-preserved
loop-grid_point-preserved g c =
    let n = g.T.PointType.number_of in
    let push = c.in_ok-push.ensures.items in
    let out = c.loop-grid_point.out.items in
    let label = ap (λ x. x.0) c.grid_point.view_is in
    let box = c.in_ok-sides.ensures.numbers ∙ ap (λ x. map at_point x.1) c.grid_point.view_is in
    record {
      can = tt;
      ends = tt;
      rows = ap (map (row_numbers n)) push ∙ map_push (row_numbers n) point_row out c.loop-grid_point.yielded (c.grid_point.inside.label, c.in_ok-sides.sides) c.in-Some.grid_point c.loop-grid_point.invariant.rows (λ t. (label t, box t));
      boxes = All-same (λ x. IsBox g.T.PointType.IsPoint c.args.types.now x.1) c.push.new.self.items (out ++ (c.grid_point.inside.label, c.in_ok-sides.sides) ∷ []) push (All-push (λ x. IsBox g.T.PointType.IsPoint c.args.types.now x.1) out (c.grid_point.inside.label, c.in_ok-sides.sides) c.loop-grid_point.invariant.boxes c.in_ok-sides.ensures.points);
    }

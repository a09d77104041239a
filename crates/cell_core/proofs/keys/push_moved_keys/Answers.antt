use Rattle.std.proofs.Common.{◌<◌, ◌++◌, length, rules, arith, sym, ap, ◌∙◌}
use Rattle.std.proofs.lemmas.Iterator.Adapters.{YieldsList-from_vec}
use Rattle.std.proofs.lemmas.Iterator.Consumers.{YieldsList-turn, YieldsList-end}
use Rattle.std.proofs.lemmas.List.{length_push, map-id}
use Rattle.cell_core.specs.Cells.{keys_from}
use Rattle.cell_core.proofs.KeyLemmas.{key_moved}
use Rattle.cell_core.proofs.keys.push_moved_keys.Goals as goal

pub one_box-requires : goal.one_box-requires
one_box-requires g c = λ k d h.
    let xs = c.args.rows.items in
    let t = YieldsList-turn (YieldsList-from_vec {s = c.into_iter-row-iterator.result} xs (search rules) (search rules)) c.loop-row.yielded c.loop-row.row-iterator c.loop-row.yielded_by c.next.result c.next.new.self c.in-Some.row c.in-Some.is c.next.ensures.steps in
    let l : length c.loop-row.yielded < length xs = t.0 in
    let w = c.requires.full k d h in
    let p = c.loop-row.invariant.grid_point in
    omega arith

pub loop-row-preserved : goal.loop-row-preserved
loop-row-preserved g c = record {
  can = tt;
  ends = tt;
  grid_point = let p = c.loop-row.invariant.grid_point in let e = length_push c.loop-row.yielded c.in-Some.row in omega arith;
  items = key_moved c.args.first c.loop-row.yielded c.args.sides.now c.loop-row.at c.in-Some.row c.args.out.now.items c.loop-row.out.items c.push.new.self.items c.row.inside.label c.in_ok-cells.cells.sides.items c.loop-row.invariant.grid_point c.loop-row.invariant.items c.in_ok-push.ensures.items (ap (λ x. x.0) c.row.view_is) c.in_ok-cells.ensures;
}

pub returns : goal.returns
returns g c =
    let xs = c.args.rows.items in
    let t = YieldsList-end (YieldsList-from_vec {s = c.into_iter-row-iterator.result} xs (search rules) (search rules)) c.loop-row.yielded c.loop-row.row-iterator c.loop-row.yielded_by c.next.result c.next.new.self c.in-None.is c.next.ensures.steps in
    c.loop-row.invariant.items ∙ ap (λ ys. c.args.out.now.items ++ keys_from c.args.first ys c.args.sides.now) (sym (map-id c.loop-row.yielded) ∙ t.0)

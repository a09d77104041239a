use Rattle.std.proofs.Common.{◌↔◌, List, length, rules, subst, sym, ◌∙◌}
use Rattle.std.proofs.lemmas.Iterator.Adapters.{YieldsList-from_vec}
use Rattle.std.proofs.lemmas.Iterator.Consumers.{YieldsList-turn, YieldsList-end}
use Rattle.cell_packing.specs.Covering.{Among}
use Rattle.cell_boxes.specs.Meetings.{Met, IsLabelled}
use Rattle.cell_boxes.specs.Rows.{PlainCellBox}
use Rattle.cell_boxes.proofs.RowLemmas.{row_among}
use Rattle.cell_boxes.proofs.SharedLemmas.{label_turn, map_same}
use Rattle.cell_boxes.proofs.sharing.with_left_labels.Goals as goal

pub with_left_label-requires : goal.with_left_label-requires
with_left_label-requires g c =
    let xs = c.args.meetings.items in
    let t = YieldsList-turn (YieldsList-from_vec {s = c.into_iter-m-iterator.result} xs (search rules) (search rules)) c.loop-m.yielded c.loop-m.m-iterator c.loop-m.yielded_by c.next.result c.next.new.self c.in-Some.m c.in-Some.is c.next.ensures.steps in
    c.requires c.in-Some.m (row_among xs (length c.loop-m.yielded) c.in-Some.m (t.0, sym t.1))

pub loop-m-preserved : goal.loop-m-preserved
loop-m-preserved g c = record {
  can = search rules;
  ends = search rules;
  rows = label_turn c.args.labels.now c.loop-m.yielded c.in-Some.m c.in_ok-row.row c.in_ok-row.ensures.label c.in_ok-row.ensures.sides c.loop-m.out.items c.push.new.self.items c.in_ok-push.ensures.items c.loop-m.invariant.rows;
}

pub returns : goal.returns
returns g c =
    let xs = c.args.meetings.items in
    let t = YieldsList-end (YieldsList-from_vec {s = c.into_iter-m-iterator.result} xs (search rules) (search rules)) c.loop-m.yielded c.loop-m.m-iterator c.loop-m.yielded_by c.next.result c.next.new.self c.in-None.is c.next.ensures.steps in
    subst (λ (ms : List Met). (z : PlainCellBox _) → Among z c.loop-m.out.items ↔ IsLabelled c.args.labels.now ms z) (sym (map_same c.loop-m.yielded) ∙ t.0) c.loop-m.invariant.rows

use Rattle.std.proofs.Common.{◌↔◌, List, length, rules, subst, sym, ◌∙◌}
use Rattle.std.proofs.lemmas.Iterator.Adapters.{YieldsList-from_vec}
use Rattle.std.proofs.lemmas.Iterator.Consumers.{YieldsList-turn, YieldsList-end}
use Rattle.cell_packing.specs.Covering.{Among}
use Rattle.cell_boxes.specs.Meetings.{Met, IsPairLabelled}
use Rattle.cell_boxes.specs.Rows.{PlainCellBox}
use Rattle.cell_boxes.proofs.RowLemmas.{row_among}
use Rattle.cell_boxes.proofs.SharedLemmas.{map_same}
use Rattle.cell_boxes.proofs.JoinLemmas.{pair_turn}
use Rattle.cell_boxes.proofs.joining.with_pair_labels.Goals as goal

pub with_pair_label-requires-clause-left : goal.with_pair_label-requires-clause-left
with_pair_label-requires-clause-left g c =
    let xs = c.args.meetings.items in
    let t = YieldsList-turn (YieldsList-from_vec {s = c.into_iter-m-iterator.result} xs (search rules) (search rules)) c.loop-m.yielded c.loop-m.m-iterator c.loop-m.yielded_by c.next.result c.next.new.self c.in-Some.m c.in-Some.is c.next.ensures.steps in
    c.requires.left c.in-Some.m (row_among xs (length c.loop-m.yielded) c.in-Some.m (t.0, sym t.1))

pub with_pair_label-requires-clause-right : goal.with_pair_label-requires-clause-right
with_pair_label-requires-clause-right g c =
    let xs = c.args.meetings.items in
    let t = YieldsList-turn (YieldsList-from_vec {s = c.into_iter-m-iterator.result} xs (search rules) (search rules)) c.loop-m.yielded c.loop-m.m-iterator c.loop-m.yielded_by c.next.result c.next.new.self c.in-Some.m c.in-Some.is c.next.ensures.steps in
    c.requires.right c.in-Some.m (row_among xs (length c.loop-m.yielded) c.in-Some.m (t.0, sym t.1))

pub loop-m-preserved : goal.loop-m-preserved
loop-m-preserved g c =
    let w = c.in_ok-row.ensures.label in
    record {
      can = search rules;
      ends = search rules;
      rows = pair_turn (g.O.PairRule.means c.args.rule.now) c.args.lefts.now c.args.rights.now c.loop-m.yielded c.in-Some.m c.in_ok-row.row w.0 w.1 w.2 w.3 w.4 c.in_ok-row.ensures.sides c.loop-m.out.items c.push.new.self.items c.in_ok-push.ensures.items c.loop-m.invariant.rows;
    }

pub returns : goal.returns
returns g c =
    let xs = c.args.meetings.items in
    let t = YieldsList-end (YieldsList-from_vec {s = c.into_iter-m-iterator.result} xs (search rules) (search rules)) c.loop-m.yielded c.loop-m.m-iterator c.loop-m.yielded_by c.next.result c.next.new.self c.in-None.is c.next.ensures.steps in
    subst (λ (ms : List Met). (z : PlainCellBox _) → Among z c.loop-m.out.items ↔ IsPairLabelled (g.O.PairRule.means c.args.rule.now) c.args.lefts.now c.args.rights.now ms z) (sym (map_same c.loop-m.yielded) ∙ t.0) c.loop-m.invariant.rows

use Rattle.std.proofs.Common.{◌≡◌, ℕ, List, map, length, rules, subst, sym, ◌∙◌}
use Rattle.std.proofs.lemmas.Iterator.Adapters.{YieldsList-from_vec}
use Rattle.std.proofs.lemmas.Iterator.Consumers.{YieldsList-turn, YieldsList-end}
use Rattle.cell_boxes.specs.KeyNumbers.{named}
use Rattle.cell_boxes.specs.Rows.{PlainCellBox}
use Rattle.cell_boxes.proofs.FirstLemmas.{named_turn}
use Rattle.cell_boxes.proofs.RowLemmas.{row_among}
use Rattle.cell_boxes.proofs.SharedLemmas.{map_same}
use Rattle.cell_boxes.proofs.labelling.with_labels.Goals as goal

pub with_label-requires : goal.with_label-requires
with_label-requires g c =
    let xs = c.args.rows.items in
    let t = YieldsList-turn (YieldsList-from_vec {s = c.into_iter-row-iterator.result} xs (search rules) (search rules)) c.loop-row.yielded c.loop-row.row-iterator c.loop-row.yielded_by c.next.result c.next.new.self c.in-Some.row c.in-Some.is c.next.ensures.steps in
    c.requires c.in-Some.row (row_among xs (length c.loop-row.yielded) c.in-Some.row (t.0, sym t.1))

pub loop-row-preserved : goal.loop-row-preserved
loop-row-preserved g c = record {
  can = search rules;
  ends = search rules;
  rows = named_turn c.args.labels.now c.loop-row.yielded c.in-Some.row c.in_ok-own.own c.in_ok-own.ensures.label c.in_ok-own.ensures.sides c.loop-row.out.items c.push.new.self.items c.in_ok-push.ensures.items c.loop-row.invariant.rows;
}

pub returns : goal.returns
returns g c =
    let xs = c.args.rows.items in
    let t = YieldsList-end (YieldsList-from_vec {s = c.into_iter-row-iterator.result} xs (search rules) (search rules)) c.loop-row.yielded c.loop-row.row-iterator c.loop-row.yielded_by c.next.result c.next.new.self c.in-None.is c.next.ensures.steps in
    subst (λ (ys : List (PlainCellBox ℕ)). (d : _) → c.loop-row.out.items ≡ map (named c.args.labels.now d) ys) (sym (map_same c.loop-row.yielded) ∙ t.0) c.loop-row.invariant.rows

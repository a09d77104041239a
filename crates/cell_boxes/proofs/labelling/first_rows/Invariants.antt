use Rattle.std.proofs.Common.{◌≡◌, ◌≤◌, length}
use Rattle.cell_boxes.specs.KeyNumbers.{HaveFirsts, Begins}
use Rattle.cell_boxes.proofs.labelling.first_rows.Given as goal

abbrev pub invariant-loop-next : goal.invariant-loop-next
invariant-loop-next g l = record {
  begins : Begins g.K.Label.order l.rows l.first l.next;
  first : l.first ≤ l.next;
  count : length l.firsts.items ≡ l.next;
  firsts : HaveFirsts g.K.Label.order l.rows l.firsts.items;
}

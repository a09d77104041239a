use Rattle.std.proofs.Common.{◌≡◌, ℕ, ◌+◌, ◌<◌, ◌≤◌, length}
use Rattle.std.specs.declared.cmp.Ordering.TheVariants.{Less}
use Rattle.cell_boxes.specs.KeyNumbers.{HaveNumbers, Begins, IsCount}
use Rattle.cell_boxes.specs.Rows.{IsRow, PlainCellBox}
use Rattle.cell_boxes.proofs.numbering.numbers_of.Given as goal

abbrev pub invariant-loop-next : goal.invariant-loop-next
invariant-loop-next g l = record {
  begins : Begins g.K.Label.order l.rows l.first l.next;
  first : l.first ≤ l.next;
  within : l.known ≤ length l.others;
  lesser : (i q : ℕ) (y z : PlainCellBox _) → IsRow l.others i y → i < l.known → IsRow l.rows q z → l.next ≤ q → g.K.Label.order y.0 z.0 ≡ Less;
  counted : (q : ℕ) (y : PlainCellBox _) → q + 1 ≡ l.next → IsRow l.rows q y → IsCount g.K.Label.order l.others y.0 l.known;
  count : length l.numbers.items ≡ l.next;
  numbers : HaveNumbers g.K.Label.order l.rows l.others l.numbers.items;
}

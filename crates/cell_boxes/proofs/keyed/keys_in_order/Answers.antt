use Rattle.std.proofs.Common.{◌≡◌, length}
use Rattle.std.proofs.lemmas.List.Sorted.{All-permutation}
use Rattle.cell_boxes.specs.Answers.{PlainKeyedCellBox}
use Rattle.cell_boxes.proofs.OperatorLemmas.{paired_moved}
use Rattle.cell_boxes.proofs.keyed.keys_in_order.Goals as goal

pub returns-clause-paired : goal.returns-clause-paired
returns-clause-paired g c = paired_moved c.args.rows.items c.arrange_unordered.new.items.items c.arrange_unordered.ensures c.in_ok-keys.keys.items c.in_ok-keys.labels.items c.in_ok-keys.ensures.paired

pub returns-clause-sides : goal.returns-clause-sides
returns-clause-sides g c = λ k h. c.in_ok-keys.ensures.sides k (All-permutation (λ (x : PlainKeyedCellBox _ _). length x.2 ≡ k) c.args.rows.items c.arrange_unordered.new.items.items c.arrange_unordered.ensures h)

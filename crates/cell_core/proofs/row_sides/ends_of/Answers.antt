use Rattle.std.proofs.Common.{map, length, arith, ◌-◌}
use Rattle.std.proofs.lemmas.List.{length-map}
use Rattle.cell_core.proofs.Gather.{left_read, right_read}
use Rattle.cell_core.proofs.row_sides.ends_of.Goals as goal

pub returns-then-r-left : goal.returns-then-r-left
returns-then-r-left g c = λ d.
    let k = length-map c.args.left.now (λ x. x.1) in
    left_read c.args.side d (map (λ x. x.1) c.args.left.now) (map (λ x. x.1) c.args.right.now) c.args.r c.row_ends.result (omega arith) (c.row_ends.ensures d)

pub returns-else-r-left : goal.returns-else-r-left
returns-else-r-left g c = λ d.
    let k = length-map c.args.left.now (λ x. x.1) in
    right_read c.args.side d (map (λ x. x.1) c.args.left.now) (map (λ x. x.1) c.args.right.now) (c.args.r - length c.args.left.now) c.args.r c.row_ends-else-r-left.result (omega arith) (c.row_ends-else-r-left.ensures d)

use Rattle.std.proofs.Common.{◌≡◌, ℕ, ◌<◌, ◌+◌, ◌-◌, ◌++◌, length, get_or, arith, rules, subst}
use Rattle.cell_sweep.specs.Rows.{sides_of}
use Rattle.cell_boxes.specs.Outside.{outside_to}
use Rattle.cell_boxes.proofs.LessLemmas.{outside_turn}
use Rattle.cell_boxes.proofs.outside.push_outside.Goals as goal

pub returns : goal.returns
returns c =
    let y = c.args.piece.sides.items in
    let hole = c.args.hole.now.1 in
    let rest = c.in_ok-rest.rest.sides.items in
    let same : c.hole.inside.sides.items ≡ hole = cc in
    let len : c.len-last.result ≡ length hole = search rules in
    let low : 0 < length hole = search rules in
    let last : ℕ = c.len-last.result - 1 in
    let more : last + 1 ≡ length hole = omega (arith, len, low) in
    let below : last < length hole = omega (arith, more) in
    let cells : c.index-cells.result.now ≡ get_or hole last c.index-cells.result.now = subst (λ xs. c.index-cells.result.now ≡ get_or xs last c.index-cells.result.now) same c.index-cells.ensures in
    subst (λ n. sides_of c.move_beside.new.out.items ≡ sides_of c.args.out.now.items ++ outside_to n y hole) more
    (outside_turn y hole rest last c.index-cells.result.now (sides_of c.args.out.now.items) (sides_of c.within_first.new.out.items) (sides_of c.move_beside.new.out.items) c.in_ok-rest.ensures.rest below cells c.in_ok-rest.ensures.out c.in_ok-move_beside.ensures)

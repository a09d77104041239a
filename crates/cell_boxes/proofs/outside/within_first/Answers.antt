use Rattle.std.proofs.Common.{◌≡◌, ℕ, ◌<◌, ◌+◌, length, get_or, slice_set, arith, rules, subst, sym}
use Rattle.cell_sweep.specs.Rows.{sides_of}
use Rattle.cell_boxes.specs.Outside.{narrowed}
use Rattle.cell_boxes.proofs.LessLemmas.{narrowed_turn, outside_turn}
use Rattle.cell_boxes.proofs.outside.within_first.Goals as goal

pub loop-s-preserved : goal.loop-s-preserved
loop-s-preserved c =
    let y = c.args.piece.sides.items in
    let hole = c.args.hole.now.1 in
    let rest = c.loop-s.rest.sides.items in
    let s : ℕ = c.loop-s.s in
    let same : c.hole.inside.sides.items ≡ hole = cc in
    let cells : c.index-cells.result.now ≡ get_or hole s c.index-cells.result.now = subst (λ xs. c.index-cells.result.now ≡ get_or xs s c.index-cells.result.now) same c.index-cells.ensures in
    let sides = c.loop-s.invariant.sides in
    let test = c.loop-s-test.true in
    let l : s < length hole = search rules in
    let k : s < length rest = omega (arith, sides) in
    record {
      sides = search rules;
      rest = subst (λ z. slice_set rest s z ≡ narrowed (s + 1) y hole) (sym c.both.ensures) (narrowed_turn y hole rest s c.index.result.now c.index-cells.result.now c.loop-s.invariant.rest k l c.index.ensures cells);
      out = outside_turn y hole rest s c.index-cells.result.now (sides_of c.args.out.now.items) (sides_of c.loop-s.out.items) (sides_of c.push_beside.new.out.items) c.loop-s.invariant.rest l cells c.loop-s.invariant.out c.in_ok-push_beside.ensures;
    }

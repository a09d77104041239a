use Rattle.std.proofs.Common.{◌≤◌, length, arith}
use Rattle.std.proofs.lemmas.Bool.Decides.{nat_tests}
use Rattle.cell_sweep.specs.PackedRows.{span_of}
use Rattle.cell_sweep.specs.Rows.{sides_of}
use Rattle.cell_sweep.proofs.TwoSidesLemmas.{in_turn}
use Rattle.cell_sweep.proofs.runs.begin_in_turn.Goals as goal

pub returns : goal.returns
returns c = λ h.
    let end : length c.args.rows.now ≤ c.loop-at.at = grind (arith, nat_tests) in
    in_turn (λ r. (span_of (sides_of c.args.boxes.now) 0 r).0) c.args.rows.now (λ i d e l. c.loop-at.invariant.each i d e (omega arith) l)

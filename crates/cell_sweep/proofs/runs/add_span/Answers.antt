use Rattle.std.proofs.Common.{inr, refl}
use Rattle.cell_sweep.specs.PackedRows.{bare}
use Rattle.cell_sweep.proofs.runs.add_span.Goals as goal

pub returns-in_ok-add-clause-order : goal.returns-in_ok-add-clause-order
returns-in_ok-add-clause-order c = λ n l old. c.in_ok-add.ensures.order (record { key = bare; begin = n; end = n }) (inr (refl, l)) old

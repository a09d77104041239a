use Rattle.cell_sweep.specs.Rows.{sides_of}
use Rattle.cell_sweep.proofs.Sweeping.{starts_from}
use Rattle.cell_sweep.proofs.live.starts_of.Goals as goal

pub returns : goal.returns
returns c = starts_from (sides_of c.args.boxes.now) c.args.side c.args.rows.now c.in_ok-starts.starts.items c.sort.new.self.items c.in_ok-starts.ensures c.in_ok-sort.ensures.permutation c.in_ok-sort.ensures.sorted

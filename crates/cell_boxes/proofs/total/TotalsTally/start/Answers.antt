use Rattle.std.proofs.Common.{arith}
use Rattle.cell_boxes.proofs.TotalLemmas.{total_none}
use Rattle.cell_boxes.proofs.total.TotalsTally.start.Goals as goal

pub returns : goal.returns
returns g c = λ f n none. total_none c.args.self.now.values.items f (let r = c.requires in omega (arith, n, r)) (let r = c.ranges._rows.fits in omega (arith, n, r)) none

use Rattle.cell_boxes.proofs.SideLemmas.{on_side}
use Rattle.cell_boxes.proofs.by_side.side_in_order.Goals as goal

pub returns-clause-rows : goal.returns-clause-rows
returns-clause-rows g c = on_side c.args.side c.args.rows.now c.in_ok-numbered.numbered.items c.in_ok-numbered.ensures c.in_ok-keys.keys.items c.in_ok-keys.numbers.items c.in_ok-keys.ensures.paired

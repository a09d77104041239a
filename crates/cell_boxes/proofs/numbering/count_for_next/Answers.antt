use Rattle.cell_boxes.proofs.NumberLemmas.{count_kept}
use Rattle.cell_boxes.proofs.numbering.count_for_next.Goals as goal

pub returns-then-first-next : goal.returns-then-first-next
returns-then-first-next g c = λ x at. count_kept g.K.Label.order g.met.K.Label.total c.args.rows.now c.args.others.now c.args.first c.args.next x at c.if-first-next.true c.requires.begins c.args.known c.requires.counted

use Rattle.std.proofs.Common.{ℕ, arith}
use Rattle.cell_boxes.specs.Rows.{IsRow, PlainCellBox}
use Rattle.cell_boxes.proofs.FirstLemmas.{firsts_more}
use Rattle.cell_boxes.proofs.NumberLemmas.{begins_count, length_more}
use Rattle.cell_boxes.proofs.RowLemmas.{row_there}
use Rattle.cell_boxes.proofs.labelling.first_rows.Goals as goal

pub loop-next-preserved : goal.loop-next-preserved
loop-next-preserved g c =
    let o = g.K.Label.order in
    let total = g.met.K.Label.total in
    let rows = c.args.rows.now in
    let next : ℕ = c.loop-next.next in
    let first : ℕ = c.first_of_key-first.result in
    let there = row_there rows next (omega arith) in
    let x : PlainCellBox g.row.K.Denot = there.0 in
    let at : IsRow rows next x = there.1 in
    let begins = c.first_of_key-first.ensures.begins in
    let within = c.first_of_key-first.ensures.first in
    record {
      begins = begins;
      first = omega arith;
      count = length_more c.loop-next.firsts.items c.push.new.self.items first next c.in_ok-push.ensures.items c.loop-next.invariant.count;
      firsts = firsts_more o total rows c.loop-next.firsts.items c.push.new.self.items first next x at c.loop-next.invariant.count c.in_ok-push.ensures.items (begins_count o total rows c.requires.order first next x at within begins) c.loop-next.invariant.firsts;
    }

use Rattle.std.proofs.Common.{ℕ, arith}
use Rattle.cell_boxes.specs.Rows.{IsRow, PlainCellBox}
use Rattle.cell_boxes.proofs.NumberLemmas.{begins_count, counted_now, length_more, lesser_on, numbers_more}
use Rattle.cell_boxes.proofs.RowLemmas.{row_there}
use Rattle.cell_boxes.proofs.numbering.numbers_of.Goals as goal

pub loop-next-preserved : goal.loop-next-preserved
loop-next-preserved g c =
    let o = g.K.Label.order in
    let total = g.met.K.Label.total in
    let rows = c.args.rows.now in
    let others = c.args.others.now in
    let next : ℕ = c.loop-next.next in
    let first : ℕ = c.first_of_key-first.result in
    let known : ℕ = c.count_for_next-known.result in
    let there = row_there rows next (omega arith) in
    let x : PlainCellBox g.row.K.Denot = there.0 in
    let at : IsRow rows next x = there.1 in
    let begins = c.first_of_key-first.ensures.begins in
    let within = c.first_of_key-first.ensures.first in
    let count = c.count_for_next-known.ensures x at in
    record {
      begins = begins;
      first = omega arith;
      within = count.within;
      lesser = lesser_on o total rows others c.requires.order next x at known count;
      counted = λ q y e h. counted_now o total rows others next x at known count q y e h;
      count = length_more c.loop-next.numbers.items c.push.new.self.items c.in_ok-own.own next c.in_ok-push.ensures.items c.loop-next.invariant.count;
      numbers = numbers_more o total rows c.requires.order others c.loop-next.numbers.items c.push.new.self.items c.in_ok-own.own next x at c.loop-next.invariant.count c.in_ok-push.ensures.items (first, known, begins_count o total rows c.requires.order first next x at within begins, count, c.in_ok-own.ensures) c.loop-next.invariant.numbers;
    }

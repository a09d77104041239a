use Rattle.std.proofs.Common.{◌<◌, ◌≤◌, length, arith}
use Rattle.cell_core.proofs.ApartLemmas.{moved_whole}
use Rattle.cell_core.proofs.apart.by_label.Goals as goal

pub returns : goal.returns
returns g c =
    let h = c.loop-row-test.false in
    let l : length c.args.rows.now ≤ c.loop-row.row-index = omega arith in
    moved_whole (λ r. r.now) c.args.rows.now c.loop-row.row-index c.loop-row.list.items c.sort_by.new.self.items c.loop-row.invariant l c.sort_by.ensures.permutation

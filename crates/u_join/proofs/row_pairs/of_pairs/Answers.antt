use Rattle.std.proofs.Common.{get_or}
use Rattle.cell_boxes.proofs.RowLemmas.{row_among, some_row}
use Rattle.u_join.proofs.row_pairs.of_pairs.Goals as goal

pub of_pair-requires-clause-pair : goal.of_pair-requires-clause-pair
of_pair-requires-clause-pair c =
    let pairs = c.args.pairs.now in
    let i = c.loop-pair.pair-index in
    let p = get_or pairs i (0, 0) in
    c.requires.pairs p (row_among pairs i p (some_row pairs i (0, 0) c.loop-pair-test.true))

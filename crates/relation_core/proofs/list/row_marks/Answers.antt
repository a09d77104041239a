use Rattle.std.proofs.Common.{◌<◌, length, arith}
use Rattle.relation_core.proofs.HashLemmas.{row_long, hashes_more}
use Rattle.relation_core.proofs.list.row_marks.Goals as goal

pub hash_of-requires : goal.hash_of-requires
hash_of-requires c =
    let lt : c.loop-row.row-index < length c.rows-rows.result.now = omega arith in
    row_long c.args.r.now c.rows-rows.result.now c.loop-row.row-index c.row-item.result c.args.positions.now c.rows-rows.ensures.relation c.rows-rows.ensures.rows lt c.row-item.is c.requires

pub loop-row-preserved : goal.loop-row-preserved
loop-row-preserved c =
    let lt : c.loop-row.row-index < length c.rows-rows.result.now = omega arith in
    hashes_more c.args.positions.now c.rows-rows.result.now c.loop-row.row-index c.row-item.result c.hash_of.result c.loop-row.list.items _ lt c.row-item.is c.hash_of.ensures c.loop-row.invariant c.in_ok-push.ensures.items

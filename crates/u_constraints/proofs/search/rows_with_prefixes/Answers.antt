use Rattle.std.proofs.Common.{◌<◌, length, arith}
use Rattle.u_constraints.proofs.SearchLemmas.{prefixes_more, in_order_too}
use Rattle.u_constraints.proofs.search.rows_with_prefixes.Goals as goal

pub with_prefix-requires : goal.with_prefix-requires
with_prefix-requires c = in_order_too c.args.r.now c.rows-given.result.now c.rows-given.ensures.rows c.rows-given.ensures.relation

pub loop-values-preserved : goal.loop-values-preserved
loop-values-preserved c =
    let within : c.loop-values.values-index < length c.args.list.now = omega arith in
    prefixes_more c.args.r.now.rows c.rows-given.result.now c.args.list.now c.loop-values.values-index c.values-item.result _ _ _ within c.values-item.is c.rows-given.ensures.rows
    c.loop-values.invariant c.with_prefix.ensures c.in_ok-add_copies.ensures

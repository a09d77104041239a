use Rattle.std.proofs.Common.{length, take, rules}
use Rattle.std.specs.Ordering.{is_lt}
use Rattle.std.proofs.lemmas.List.Sorted.{IsPartitionPoint-from_clause}
use Rattle.value_core.specs.Order.{row_total}
use Rattle.value_core.specs.Values.{Row, row_cmp}
use Rattle.relation_core.proofs.RunLemmas.{below_partitions, at_partitions, run_is, not_below}
use Rattle.u_constraints.specs.Prefixes.{begins_with}
use Rattle.u_constraints.proofs.SearchLemmas.{prefixes_sorted}
use Rattle.u_constraints.proofs.beginning.with_prefix.Goals as goal

pub returns : goal.returns
returns c =
    let up = prefixes_sorted (length c.args.values.now) c.args.rows.now c.requires in
    let low = IsPartitionPoint-from_clause (λ (x : Row). is_lt (row_cmp (take (length c.args.values.now) x) c.args.values.now)) _ _ c.partition_point-begin.ensures.partitioned
    (below_partitions (λ (x : Row). take (length c.args.values.now) x) row_cmp row_total c.args.rows.now c.args.values.now up) (λ a r q k. search rules) in
    let at = IsPartitionPoint-from_clause (begins_with c.args.values.now) _ _ c.partition_point-count.ensures.partitioned
    (at_partitions (λ (x : Row). take (length c.args.values.now) x) row_cmp row_total c.args.rows.now c.split_at.result.1.now c.partition_point-begin.result c.args.values.now up
    c.partition_point-begin.ensures.bound c.split_at.ensures.back c.split_at.ensures.back_len low.1) (λ a r q k. search rules) in
    run_is (λ (x : Row). is_lt (row_cmp (take (length c.args.values.now) x) c.args.values.now)) (begins_with c.args.values.now)
    (λ x h. not_below (row_cmp (take (length c.args.values.now) x) c.args.values.now) h) c.args.rows.now c.split_at.result.1.now c.split_at-2.result.0.now
    c.partition_point-begin.result c.partition_point-count.result c.split_at.ensures.back c.split_at-2.ensures.front low.0 at.0 at.1

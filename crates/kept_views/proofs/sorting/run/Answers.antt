use Rattle.std.proofs.Common.{rules}
use Rattle.std.specs.Ordering.{is_lt}
use Rattle.std.proofs.lemmas.List.Sorted.{IsPartitionPoint-from_clause}
use Rattle.value_core.specs.Order.{row_total}
use Rattle.value_core.specs.Values.{Row, row_cmp}
use Rattle.kept_views.specs.Sorted.{is_behind}
use Rattle.relation_core.proofs.RunLemmas.{below_partitions, at_partitions, run_is, not_below}
use Rattle.kept_views.proofs.sorting.run.Goals as goal

pub returns : goal.returns
returns c =
    let low = IsPartitionPoint-from_clause (λ (e : Row × Row). is_lt (row_cmp e.0 c.args.key.now)) _ _ c.partition_point-begin.ensures.partitioned
    (below_partitions (λ (e : Row × Row). e.0) row_cmp row_total c.args.list.now c.args.key.now c.requires) (λ a r q k. search rules) in
    let at = IsPartitionPoint-from_clause (is_behind c.args.key.now) _ _ c.partition_point-count.ensures.partitioned
    (at_partitions (λ (e : Row × Row). e.0) row_cmp row_total c.args.list.now c.split_at.result.1.now c.partition_point-begin.result c.args.key.now c.requires
    c.partition_point-begin.ensures.bound c.split_at.ensures.back c.split_at.ensures.back_len low.1) (λ a r q k. search rules) in
    run_is (λ (e : Row × Row). is_lt (row_cmp e.0 c.args.key.now)) (is_behind c.args.key.now) (λ e h. not_below (row_cmp e.0 c.args.key.now) h) c.args.list.now c.split_at.result.1.now c.split_at-2.result.0.now
    c.partition_point-begin.result c.partition_point-count.result c.split_at.ensures.back c.split_at-2.ensures.front low.0 at.0 at.1

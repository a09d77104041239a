use Rattle.std.proofs.Common.{take, ◌∙◌, rules}
use Rattle.std.specs.Ordering.{is_lt}
use Rattle.std.proofs.lemmas.List.Sorted.{IsPartitionPoint-from_clause}
use Rattle.base_core.proofs.SetLemmas.{Ascends-from_sorted}
use Rattle.value_core.specs.Order.{row_total}
use Rattle.value_core.specs.Values.{Row, row_cmp}
use Rattle.relation_core.proofs.RunLemmas.{below_partitions, at_partitions, run_is, not_below}
use Rattle.log_times.specs.Fronts.{has_front}
use Rattle.log_times.proofs.FrontLemmas.{fronts_sorted, behind_front}
use Rattle.log_times.proofs.fronts.split_front.Goals as goal

pub returns-clause-same : goal.returns-clause-same
returns-clause-same c =
    let front = take c.args.side c.args.one.now in
    let up = fronts_sorted c.args.side c.args.rows.now (Ascends-from_sorted row_cmp c.args.rows.now c.requires) in
    let low = IsPartitionPoint-from_clause (λ (x : Row). is_lt (row_cmp (take c.args.side x) front)) _ _ c.partition_point-begin.ensures.partitioned
    (below_partitions (λ (x : Row). take c.args.side x) row_cmp row_total c.args.rows.now front up) (λ a r q k. search rules) in
    let at = IsPartitionPoint-from_clause (has_front c.args.side c.args.one.now) _ _ c.partition_point-count.ensures.partitioned
    (at_partitions (λ (x : Row). take c.args.side x) row_cmp row_total c.args.rows.now c.split_at.result.1.now c.partition_point-begin.result front up
    c.partition_point-begin.ensures.bound c.split_at.ensures.back c.split_at.ensures.back_len low.1) (λ a r q k. search rules) in
    run_is (λ (x : Row). is_lt (row_cmp (take c.args.side x) front)) (has_front c.args.side c.args.one.now) (λ x h. not_below (row_cmp (take c.args.side x) front) h) c.args.rows.now c.split_at.result.1.now c.split_at-2.result.0.now
    c.partition_point-begin.result c.partition_point-count.result c.split_at.ensures.back c.split_at-2.ensures.front low.0 at.0 at.1

pub returns-clause-behind : goal.returns-clause-behind
returns-clause-behind c =
    let front = take c.args.side c.args.one.now in
    let up = fronts_sorted c.args.side c.args.rows.now (Ascends-from_sorted row_cmp c.args.rows.now c.requires) in
    let low = IsPartitionPoint-from_clause (λ (x : Row). is_lt (row_cmp (take c.args.side x) front)) _ _ c.partition_point-begin.ensures.partitioned
    (below_partitions (λ (x : Row). take c.args.side x) row_cmp row_total c.args.rows.now front up) (λ a r q k. search rules) in
    let at = IsPartitionPoint-from_clause (has_front c.args.side c.args.one.now) _ _ c.partition_point-count.ensures.partitioned
    (at_partitions (λ (x : Row). take c.args.side x) row_cmp row_total c.args.rows.now c.split_at.result.1.now c.partition_point-begin.result front up
    c.partition_point-begin.ensures.bound c.split_at.ensures.back c.split_at.ensures.back_len low.1) (λ a r q k. search rules) in
    c.split_at-2.ensures.back
    ∙ behind_front c.args.side c.args.one.now c.args.rows.now c.split_at.result.1.now c.partition_point-begin.result c.partition_point-count.result c.split_at.ensures.back c.split_at.ensures.back_len low.0 low.1 at.0 at.1

use Rattle.std.proofs.Common.{◌≡◌, ◌*◌, ◌^◌, take, pos, neg_ℤ, ◌≤ℤ◌}
use Rattle.u_summary.specs.Summaries.{total}
use Rattle.u_summary.proofs.sums.total.Given as goal

abbrev pub invariant-loop-value : goal.invariant-loop-value
invariant-loop-value l = record {
  exact : l.sum ≡ total (take l.value-index l.values);
  low : neg_ℤ (pos (2 ^ 63 * l.value-index)) ≤ℤ l.sum;
  high : l.sum ≤ℤ pos (2 ^ 63 * l.value-index);
}

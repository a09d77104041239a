use Rattle.std.proofs.Common.{◌≡◌, ℕ, ◌<◌, ◌≤◌, ◌-◌, length, slice_index_or}
use Rattle.std.specs.declared.cmp.Ordering.TheVariants.{Equal}
use Rattle.cell_sweep.proofs.by_label.label_end.Given as goal

abbrev pub decreases-loop-end : goal.decreases-loop-end
decreases-loop-end g l = length l.labels - l.end

abbrev pub invariant-loop-end : goal.invariant-loop-end
invariant-loop-end g l = record {
  after : l.first < l.end;
  within : l.end ≤ length l.labels;
  same : (j : ℕ) (d e : _) → l.first ≤ j → j < l.end → g.P.Label.order (slice_index_or l.labels l.first d) (slice_index_or l.labels j e) ≡ Equal;
}

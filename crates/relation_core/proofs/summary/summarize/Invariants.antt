use Rattle.std.proofs.Common.{◌≡◌, take, map}
use Rattle.base_core.specs.Outcomes.{least_of_all}
use Rattle.relation_core.specs.Faults.{fault_of, values_of}
use Rattle.relation_core.specs.Groups.{group}
use Rattle.point_core.specs.Orders.{fault_order}
use Rattle.relation_core.proofs.summary.summarize.Given as goal

abbrev pub invariant-loop-key : goal.invariant-loop-key
invariant-loop-key g l = record {
  least : l.least ≡ fault_of (least_of_all fault_order (map (λ k. g.means (group l.by l.r.rows k)) (take l.key-index l.key-items)));
  rows : l.rows.items ≡ values_of (map (λ k. g.means (group l.by l.r.rows k)) (take l.key-index l.key-items));
}

use Rattle.std.proofs.Common.{◌≡◌, take, map}
use Rattle.std.specs.List.{filter}
use Rattle.base_core.specs.Outcomes.{least_of_all}
use Rattle.relation_core.specs.Faults.{fault_of}
use Rattle.relation_core.specs.Operators.{is_true}
use Rattle.point_core.specs.Orders.{fault_order}
use Rattle.relation_core.proofs.restriction.restrict.Given as goal

abbrev pub invariant-loop-x : goal.invariant-loop-x
invariant-loop-x g l = record {
  least : l.least ≡ fault_of (least_of_all fault_order (map g.means (take l.x-index l.given)));
  rows : l.rows.items ≡ filter (λ x. is_true (g.means x)) (take l.x-index l.given);
}

use Rattle.std.proofs.Common.{◌≡◌, take, map}
use Rattle.base_core.specs.Outcomes.{least_of_all}
use Rattle.relation_core.specs.Faults.{fault_of, values_of}
use Rattle.point_core.specs.Orders.{fault_order}
use Rattle.relation_core.proofs.extension.extend.Given as goal

abbrev pub invariant-loop-x : goal.invariant-loop-x
invariant-loop-x g l = record {
  least : l.least ≡ fault_of (least_of_all fault_order (map g.means (take l.x-index l.given)));
  rows : l.rows.items ≡ values_of (map g.means (take l.x-index l.given));
}

use Rattle.std.proofs.Common.{◌≡◌, ℕ, map, take, slice_index_or, []}
use Rattle.base_core.specs.Outcomes.{least_of_all}
use Rattle.value_core.specs.Plain.{plain}
use Rattle.scalar_core.specs.Expressions.{read}
use Rattle.scalar_core.specs.ScalarValues.{value}
use Rattle.relation_core.specs.Faults.{fault_of, values_of}
use Rattle.point_core.specs.Orders.{fault_order}
use Rattle.row_making.proofs.aggregates.values_over.Given as goal

abbrev pub invariant-loop-number : goal.invariant-loop-number
invariant-loop-number l = record {
  least : l.least ≡ fault_of (least_of_all fault_order (map (λ (i : ℕ). value (read l.e) (slice_index_or l.rows i [])) (take l.number-index l.numbers)));
  values : map plain l.values.items ≡ values_of (map (λ (i : ℕ). value (read l.e) (slice_index_or l.rows i [])) (take l.number-index l.numbers));
}

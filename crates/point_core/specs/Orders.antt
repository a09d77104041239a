-- The tests and the orders of points, types and faults that their derives compute.
use Rattle.std.specs.Prelude.{Bool}
use Rattle.std.specs.declared.cmp.Ordering.{Ordering}
use Rattle.point_core.specs.declared.any_type.AnyPoint.{AnyPoint}
use Rattle.point_core.specs.declared.any_type.AnyType.{AnyType}
use Rattle.point_core.specs.declared.fault.Fault.{Fault}
use Rattle.point_core.specs.declared.fault.Code.{Code}
use Rattle.point_core.specs.contracts.any_type.AnyPointOrd.TheImpl.{cmp-value as derived_point_cmp}
use Rattle.point_core.specs.contracts.any_type.AnyPointPartialEq.TheImpl.{eq-value as derived_point_eq}
use Rattle.point_core.specs.contracts.any_type.AnyTypePartialEq.TheImpl.{eq-value as derived_type_eq}
use Rattle.point_core.specs.contracts.fault.FaultOrd.TheImpl.{cmp-value as derived_fault_cmp}
use Rattle.point_core.specs.contracts.fault.CodeOrd.TheImpl.{cmp-value as derived_code_cmp}

abbrev pub point_cmp : AnyPoint → AnyPoint → Ordering
point_cmp = derived_point_cmp.it

abbrev pub point_eq : AnyPoint → AnyPoint → Bool
point_eq = derived_point_eq.it

abbrev pub type_eq : AnyType → AnyType → Bool
type_eq = derived_type_eq.it

abbrev pub code_order : Code → Code → Ordering
code_order = derived_code_cmp.it

-- by place, and then by code: `fault_by_place` of FaultLaws says that it is fault_cmp
abbrev pub fault_order : Fault → Fault → Ordering
fault_order = derived_fault_cmp.it

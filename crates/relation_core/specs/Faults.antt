-- Values and faults so far.
use Rattle.std.specs.Prelude.{Option, Some, None, Ok, Err, List, [], ◌∷◌}
use Rattle.point_core.specs.Faults.{OrFault}
use Rattle.point_core.specs.declared.fault.Fault.{Fault}
use Rattle.point_core.specs.Orders.{fault_order}

-- the fault in a value's place
abbrev pub fault_of : {X : Type 0} → OrFault X → Option Fault
fault_of (Ok v) = None
fault_of (Err e) = Some e

-- the values
abbrev pub values_of : {X : Type 0} → List (OrFault X) → List X
values_of [] = []
values_of (Ok v ∷ rest) = v ∷ values_of rest
values_of (Err e ∷ rest) = values_of rest

-- The least of some faults, and the lesser of two.
use Rattle.std.specs.Prelude.{◌≡◌, ◌≢◌, Option, Some, None, if◌then◌else◌}
use Rattle.std.specs.Ordering.{is_lt}
use Rattle.std.specs.declared.cmp.Ordering.TheVariants.{Greater}
use Rattle.std.specs.Cmp.{IsTotalOrder}
use Rattle.point_core.specs.declared.fault.Fault.{Fault}
use Rattle.point_core.specs.Orders.{fault_order}
use Rattle.point_core.specs.contracts.fault.FaultOrd.TheImpl.Laws.{total-law}

pub fault_total : IsTotalOrder fault_order
fault_total = total-law

-- there is one, and it does not come after d
abbrev pub IsAtMost : Option Fault → Fault → Type 0
IsAtMost None d = ⊥
IsAtMost (Some e) d = fault_order e d ≢ Greater

-- the least of the faults that Q holds of, or none where it holds of none
pub record IsLeast (Q : Fault → Type 0) (o : Option Fault) : Type 0 where
  pub comes : (e : Fault) → o ≡ Some e → Q e
  pub below : (d : Fault) → Q d → IsAtMost o d

-- the lesser of two faults, where there are two
abbrev pub lesser_of : Option Fault → Option Fault → Option Fault
lesser_of None b = b
lesser_of (Some a) None = Some a
lesser_of (Some a) (Some b) = Some (if is_lt (fault_order b a) then b else a)

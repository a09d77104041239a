-- Which fault of the members of a list is the least does not depend on their order.
use Rattle.std.proofs.Common.{◌≡◌, List, map, Err}
use Rattle.base_core.specs.Outcomes.{least_of_all}
use Rattle.base_core.proofs.SetLemmas.{In}
use Rattle.point_core.specs.Faults.{OrFault}
use Rattle.point_core.specs.Orders.{fault_order}
use Rattle.point_core.specs.declared.fault.Fault.{Fault}
use Rattle.cell_sweep.proofs.Turns.{least_iff}
use Rattle.eval_using.proofs.FaultLemmas.{one_least, err_of, least_given}
use Rattle.eval_using.proofs.OrderLemmas.{HaveSame}

-- so lists with the same members have one
pub faults_alike : {X Y : Type 0} (g : X → OrFault Y) (xs ys : List X) → HaveSame xs ys → err_of (least_of_all fault_order (map g xs)) ≡ err_of (least_of_all fault_order (map g ys))
faults_alike {X} g xs ys h =
    let P : Fault → Type 0 = λ e. (x : X) × In x xs × (g x ≡ Err e) in
    let Q : Fault → Type 0 = λ e. (x : X) × In x ys × (g x ≡ Err e) in
    let b = err_of (least_of_all fault_order (map g ys)) in
    one_least P (err_of (least_of_all fault_order (map g xs))) b (least_given g xs)
    (least_iff Q P b (λ e. (λ w. (w.0, (h w.0).1 w.1, w.2), λ w. (w.0, (h w.0).0 w.1, w.2))) (least_given g ys))

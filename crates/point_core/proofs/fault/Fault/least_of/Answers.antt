use Rattle.std.proofs.Common.{◌≡◌, ◌⊎◌, Some, subst, sym}
use Rattle.point_core.specs.LeastFault.{IsLeast}
use Rattle.point_core.proofs.LeastFaultLemmas.{least_min}
use Rattle.point_core.proofs.fault.Fault.least_of.Goals as goal

pub returns-in-Some-clause-least : goal.returns-in-Some-clause-least
returns-in-Some-clause-least c = subst (λ x. IsLeast (λ d. (c.args.so_far ≡ Some d) ⊎ (c.args.next ≡ d)) (Some x)) (sym c.min.ensures) (least_min c.args.so_far c.in-Some.least c.args.next c.in-Some.is)

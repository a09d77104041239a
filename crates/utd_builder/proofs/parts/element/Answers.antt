use Rattle.std.proofs.Common.{arith}
use Rattle.utd_builder.specs.Building.{left}
use Rattle.utd_builder.proofs.Steps.{no-more}
use Rattle.utd_builder.proofs.PartRows.{step-TheElement}
use Rattle.utd_builder.proofs.parts.element.Goals as goal

pub returns : goal.returns
returns c = record { shorter = omega (arith, no-more (left c.args.cursor) (left c.in_ok-name.next) c.in_ok-name.ensures.2, c.in_ok-scalar.ensures.shorter); goes_on = λ stack k x h. let h1 = step-TheElement _ _ (left c.args.cursor) (left c.in_ok-name.next) _ k x c.in_ok-name.ensures.0 c.in_ok-name.ensures.1 c.in_ok-name.ensures.2 h in c.in_ok-scalar.ensures.goes_on _ _ x h1 }

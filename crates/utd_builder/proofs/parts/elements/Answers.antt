use Rattle.std.proofs.Common.{refl, arith}
use Rattle.utd_builder.specs.Building.{left}
use Rattle.utd_builder.proofs.Steps.{no-more}
use Rattle.utd_builder.proofs.PartRows.{step-TheElements}
use Rattle.utd_builder.proofs.parts.elements.Goals as goal

pub returns : goal.returns
returns c = record { shorter = omega (arith, no-more (left c.args.cursor) (left c.skip.result) c.skip.ensures, c.in_ok-elements.ensures.shorter); goes_on = λ stack k x h. let h1 = step-TheElements _ _ (left c.args.cursor) (left c.skip.result) _ k x c.place-place.ensures refl c.skip.ensures h in c.in_ok-elements.ensures.goes_on _ _ x h1 }

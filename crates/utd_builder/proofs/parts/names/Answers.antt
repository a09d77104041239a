use Rattle.std.proofs.Common.{refl, arith}
use Rattle.utd_builder.specs.Building.{left}
use Rattle.utd_builder.proofs.Steps.{no-more}
use Rattle.utd_builder.proofs.PartRows.{step-TheNames}
use Rattle.utd_builder.proofs.parts.names.Goals as goal

pub returns : goal.returns
returns c = record { shorter = omega (arith, no-more (left c.args.cursor) (left c.skip.result) c.skip.ensures, c.in_ok-names.ensures.names.shorter); goes_on = λ stack k x h. let h1 = step-TheNames _ _ (left c.args.cursor) (left c.skip.result) _ k x c.place-place.ensures refl c.skip.ensures h in c.in_ok-names.ensures.names.goes_on _ _ x h1 }

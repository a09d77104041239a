use Rattle.std.proofs.Common.{refl, arith}
use Rattle.utd_builder.specs.Building.{left}
use Rattle.utd_builder.proofs.Steps.{no-more}
use Rattle.utd_builder.proofs.StatementRows.{step-TheKey}
use Rattle.utd_builder.proofs.statements.key.Goals as goal

pub returns : goal.returns
returns c = record { shorter = omega (arith, no-more (left c.args.cursor) (left c.skip.result) c.skip.ensures, c.in_ok-names.ensures.shorter); goes_on = λ stack k x h. let h1 = step-TheKey _ _ (left c.args.cursor) (left c.skip.result) _ k x c.place-place.ensures refl c.skip.ensures h in c.in_ok-names.ensures.goes_on _ _ x h1 }

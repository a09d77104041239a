use Rattle.std.proofs.Common.{◌∷◌, refl, arith}
use Rattle.utd_syntax.specs.declared.terminal.Terminal.TheVariants as t
use Rattle.utd_syntax.specs.Table.{TheStatement}
use Rattle.utd_builder.specs.Building.{left}
use Rattle.utd_builder.proofs.Steps.{at, no-more, just}
use Rattle.utd_builder.proofs.ScalarRows.{step-TheName}
use Rattle.utd_builder.proofs.statements.rule.Goals as goal

pub returns : goal.returns
returns c = record { shorter = omega (arith, no-more (left c.args.cursor) (left c.skip.result) c.skip.ensures, no-more (left c.skip.result) (left c.in_ok-name.next) c.in_ok-name.ensures.2, c.in_ok-test.ensures.shorter, no-more (left c.in_ok-test.end) (left c.skip-2.result) c.skip-2.ensures); goes_on = λ stack k x h. let h1 = at t.Constraint _ _ (left c.args.cursor) (left c.skip.result) (TheStatement ∷ stack) k x c.requires refl c.place-place.ensures refl c.skip.ensures h in let h2 = step-TheName _ _ (left c.skip.result) (left c.in_ok-name.next) _ _ x c.in_ok-name.ensures.0 c.in_ok-name.ensures.1 c.in_ok-name.ensures.2 h1 in let h3 = c.in_ok-test.ensures.goes_on _ _ x h2 in just t.Semicolon (left c.in_ok-test.end) (left c.skip-2.result) _ _ x c.skip-2.ensures h3 }

use Rattle.std.proofs.Common.{◌∷◌, refl, arith}
use Rattle.utd_syntax.specs.declared.terminal.Terminal.TheVariants as t
use Rattle.utd_syntax.specs.Table.{TheStatement}
use Rattle.utd_builder.specs.Building.{left}
use Rattle.utd_builder.proofs.Steps.{at, no-more, just}
use Rattle.utd_builder.proofs.statements.print.Goals as goal

pub returns : goal.returns
returns c = record { shorter = omega (arith, no-more (left c.args.cursor) (left c.skip.result) c.skip.ensures, c.in_ok-inner.ensures.shorter, no-more (left c.in_ok-inner.next) (left c.skip-2.result) c.skip-2.ensures); goes_on = λ stack k x h. let h1 = at t.Print _ _ (left c.args.cursor) (left c.skip.result) (TheStatement ∷ stack) k x c.requires refl c.place-place.ensures refl c.skip.ensures h in let h2 = c.in_ok-inner.ensures.goes_on _ _ x h1 in just t.Semicolon (left c.in_ok-inner.next) (left c.skip-2.result) _ _ x c.skip-2.ensures h2 }

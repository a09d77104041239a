use Rattle.std.proofs.Common.{refl, arith}
use Rattle.utd_syntax.specs.declared.terminal.Terminal.TheVariants as t
use Rattle.utd_builder.specs.Building.{left}
use Rattle.utd_builder.proofs.Steps.{no-more, just}
use Rattle.utd_builder.proofs.StatementRows.{step-TheForeign}
use Rattle.utd_builder.proofs.ScalarRows.{step-TheName}
use Rattle.utd_builder.proofs.statements.foreign.Goals as goal

pub returns : goal.returns
returns c = record { shorter = omega (arith, no-more (left c.args.cursor) (left c.skip.result) c.skip.ensures, no-more (left c.skip.result) (left c.skip-2.result) c.skip-2.ensures, c.in_ok-names.ensures.shorter, no-more (left c.in_ok-names.next) (left c.skip-3.result) c.skip-3.ensures, no-more (left c.skip-3.result) (left c.in_ok-relvar.end) c.in_ok-relvar.ensures.2); goes_on = λ stack k x h. let h1 = step-TheForeign _ _ (left c.args.cursor) (left c.skip.result) _ k x c.place-place.ensures refl c.skip.ensures h in let h2 = just t.Key (left c.skip.result) (left c.skip-2.result) _ _ x c.skip-2.ensures h1 in let h3 = c.in_ok-names.ensures.goes_on _ _ x h2 in let h4 = just t.References (left c.in_ok-names.next) (left c.skip-3.result) _ _ x c.skip-3.ensures h3 in step-TheName _ _ (left c.skip-3.result) (left c.in_ok-relvar.end) _ _ x c.in_ok-relvar.ensures.0 c.in_ok-relvar.ensures.1 c.in_ok-relvar.ensures.2 h4 }

use Rattle.std.proofs.Common.{◌∷◌, refl, arith}
use Rattle.utd_syntax.specs.declared.terminal.Terminal.TheVariants as t
use Rattle.utd_syntax.specs.Table.{TheTest}
use Rattle.utd_syntax.specs.Written as written
use Rattle.utd_builder.specs.Building.{left}
use Rattle.utd_builder.proofs.Steps.{at, no-more, just}
use Rattle.utd_builder.proofs.StatementRows.{step-InRel, more-emptiness, row-TheTest-emptiness}
use Rattle.utd_builder.proofs.statements.emptiness.Goals as goal

pub returns : goal.returns
returns c = record { shorter = omega (arith, no-more (left c.args.cursor) (left c.skip.result) c.skip.ensures, no-more (left c.skip.result) (left c.skip-2.result) c.skip-2.ensures, c.in_ok-inner.ensures.shorter, no-more (left c.in_ok-inner.next) (left c.skip-3.result) c.skip-3.ensures); goes_on = λ stack k x h. let h1 = at (written.emptiness c.args.word) _ _ (left c.args.cursor) (left c.skip.result) (TheTest ∷ stack) k x c.requires (more-emptiness c.args.word) c.place-place.ensures refl c.skip.ensures h in let h2 = row-TheTest-emptiness c.args.word _ _ _ _ _ _ x h1 in let h3 = step-InRel _ _ (left c.skip.result) (left c.skip-2.result) _ _ x refl refl c.skip-2.ensures h2 in let h4 = c.in_ok-inner.ensures.goes_on _ _ x h3 in just t.Close (left c.in_ok-inner.next) (left c.skip-3.result) _ _ x c.skip-3.ensures h4 }

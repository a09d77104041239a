use Rattle.std.proofs.Common.{◌∷◌, refl, arith}
use Rattle.utd_syntax.specs.declared.terminal.Terminal.TheVariants as t
use Rattle.utd_syntax.specs.Table.{ThePrimary}
use Rattle.utd_syntax.specs.Written as written
use Rattle.utd_builder.specs.Building.{left}
use Rattle.utd_builder.proofs.Steps.{at, no-more, just}
use Rattle.utd_builder.proofs.ScalarRows.{step-InPoint, more-extreme, row-ThePrimary-extreme}
use Rattle.utd_builder.proofs.scalars.extreme.Goals as goal

pub returns : goal.returns
returns c = record { shorter = omega (arith, no-more (left c.args.cursor) (left c.skip.result) c.skip.ensures, no-more (left c.skip.result) (left c.skip-2.result) c.skip-2.ensures, c.in_ok-name.ensures.shorter, no-more (left c.in_ok-name.next) (left c.skip-3.result) c.skip-3.ensures); goes_on = λ stack k x h. let h1 = at (written.extreme c.args.word) _ _ (left c.args.cursor) (left c.skip.result) (ThePrimary ∷ stack) k x c.requires (more-extreme c.args.word) c.place-place.ensures refl c.skip.ensures h in let h2 = row-ThePrimary-extreme c.args.word _ _ _ _ _ _ x h1 in let h3 = step-InPoint _ _ (left c.skip.result) (left c.skip-2.result) _ _ x refl refl c.skip-2.ensures h2 in let h4 = c.in_ok-name.ensures.goes_on _ _ x h3 in just t.Close (left c.in_ok-name.next) (left c.skip-3.result) _ _ x c.skip-3.ensures h4 }

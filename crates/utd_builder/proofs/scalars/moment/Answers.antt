use Rattle.std.proofs.Common.{◌∷◌, refl, arith}
use Rattle.utd_syntax.specs.declared.terminal.Terminal.TheVariants as t
use Rattle.utd_syntax.specs.Table.{ThePrimary}
use Rattle.utd_builder.specs.Building.{left}
use Rattle.utd_builder.proofs.Steps.{at, no-more}
use Rattle.utd_builder.proofs.ScalarRows.{step-MomentText}
use Rattle.utd_builder.proofs.scalars.moment.Goals as goal

pub returns : goal.returns
returns c = record { shorter = omega (arith, no-more (left c.args.cursor) (left c.skip-text.result) c.skip-text.ensures, no-more (left c.skip-text.result) (left c.skip.result) c.skip.ensures); goes_on = λ stack k x h. let h1 = at t.Moment _ _ (left c.args.cursor) (left c.skip-text.result) (ThePrimary ∷ stack) k x c.requires refl c.place-place.ensures refl c.skip-text.ensures h in step-MomentText _ _ (left c.skip-text.result) (left c.skip.result) _ _ x c.place-at.ensures c.in_ok-bytes.ensures c.skip.ensures h1 }

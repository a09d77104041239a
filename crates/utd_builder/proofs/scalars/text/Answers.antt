use Rattle.std.proofs.Common.{◌∷◌, refl, arith}
use Rattle.utd_syntax.specs.declared.terminal.Terminal.TheVariants as t
use Rattle.utd_syntax.specs.Table.{ThePrimary}
use Rattle.utd_builder.specs.Building.{left}
use Rattle.utd_builder.proofs.Steps.{at, no-more}
use Rattle.utd_builder.proofs.scalars.text.Goals as goal

pub returns : goal.returns
returns c = record { shorter = omega (arith, no-more (left c.args.cursor) (left c.skip.result) c.skip.ensures); goes_on = λ stack k x h. at t.Quoted _ _ (left c.args.cursor) (left c.skip.result) (ThePrimary ∷ stack) k x c.requires refl c.place-place.ensures c.in_ok-bytes.ensures c.skip.ensures h }

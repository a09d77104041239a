use Rattle.std.proofs.Common.{◌∷◌, refl, arith}
use Rattle.utd_syntax.specs.declared.terminal.Terminal.TheVariants as t
use Rattle.utd_syntax.specs.Table.{TheItem}
use Rattle.utd_builder.specs.Building.{left}
use Rattle.utd_builder.proofs.Steps.{at, no-more, just}
use Rattle.utd_builder.proofs.statements.using_item.Goals as goal

pub returns : goal.returns
returns c = record { shorter = omega (arith, no-more (left c.args.cursor) (left c.skip.result) c.skip.ensures, c.in_ok-names.ensures.shorter, no-more (left c.in_ok-names.next) (left c.skip-2.result) c.skip-2.ensures, c.in_ok-used.ensures.shorter); goes_on = λ stack k x h. let h1 = at t.Using _ _ (left c.args.cursor) (left c.skip.result) (TheItem ∷ stack) k x c.requires refl c.place-place.ensures refl c.skip.ensures h in let h2 = c.in_ok-names.ensures.goes_on _ _ x h1 in let h3 = just t.Colon (left c.in_ok-names.next) (left c.skip-2.result) _ _ x c.skip-2.ensures h2 in c.in_ok-used.ensures.goes_on _ _ x h3 }

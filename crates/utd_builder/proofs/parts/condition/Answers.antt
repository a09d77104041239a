use Rattle.std.proofs.Common.{◌∷◌, refl, sym, ◌∙◌, arith}
use Rattle.utd_syntax.specs.declared.terminal.Terminal.TheVariants as t
use Rattle.utd_syntax.specs.Table.{MaybeWhere}
use Rattle.utd_builder.specs.Building.{left}
use Rattle.utd_builder.proofs.Steps.{at, no-more}
use Rattle.utd_builder.proofs.PartRows.{done-MaybeWhere}
use Rattle.utd_builder.proofs.parts.condition.Goals as goal

pub returns-in_default : goal.returns-in_default
returns-in_default c = record { shorter = omega arith; goes_on = λ stack k x h. done-MaybeWhere (left c.args.cursor) _ _ x (λ e. c.in_default.not-Where (c.terminal.ensures ∙ e)) h }

pub returns : goal.returns
returns c = record { shorter = omega (arith, no-more (left c.args.cursor) (left c.skip.result) c.skip.ensures, c.in_ok-scalar.ensures.shorter); goes_on = λ stack k x h. let h1 = at t.Where _ _ (left c.args.cursor) (left c.skip.result) (MaybeWhere ∷ stack) k x (sym c.terminal.ensures ∙ c.in-Where.is) refl c.place-place.ensures refl c.skip.ensures h in c.in_ok-scalar.ensures.goes_on _ _ x h1 }

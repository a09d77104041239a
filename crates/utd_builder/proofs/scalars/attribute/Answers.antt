use Rattle.std.proofs.Common.{◌∷◌, refl, sym, ◌∙◌, arith}
use Rattle.utd_syntax.specs.declared.terminal.Terminal.TheVariants as t
use Rattle.utd_syntax.specs.Table.{ThePrimary}
use Rattle.utd_builder.specs.Building.{left}
use Rattle.utd_builder.proofs.Steps.{at, no-more}
use Rattle.utd_builder.proofs.ScalarRows.{done-AfterName, step-TheName}
use Rattle.utd_builder.proofs.scalars.attribute.Goals as goal

pub returns-in_ok-value-in-Dot : goal.returns-in_ok-value-in-Dot
returns-in_ok-value-in-Dot c = record { shorter = omega (arith, no-more (left c.args.cursor) (left c.in_ok-name.next) c.in_ok-name.ensures.2, no-more (left c.in_ok-name.next) (left c.skip.result) c.skip.ensures, no-more (left c.skip.result) (left c.in_ok-value-in-Dot.end) c.in_ok-value-in-Dot.ensures.2); goes_on = λ stack k x h. let h1 = at t.Name _ _ (left c.args.cursor) (left c.in_ok-name.next) (ThePrimary ∷ stack) k x c.requires refl c.in_ok-name.ensures.0 c.in_ok-name.ensures.1 c.in_ok-name.ensures.2 h in let h2 = at t.Dot _ _ (left c.in_ok-name.next) (left c.skip.result) _ _ x (sym c.terminal.ensures ∙ c.in-Dot.is) refl refl refl c.skip.ensures h1 in step-TheName _ _ (left c.skip.result) (left c.in_ok-value-in-Dot.end) _ _ x c.in_ok-value-in-Dot.ensures.0 c.in_ok-value-in-Dot.ensures.1 c.in_ok-value-in-Dot.ensures.2 h2 }

pub returns-in_default : goal.returns-in_default
returns-in_default c = record { shorter = omega (arith, no-more (left c.args.cursor) (left c.in_ok-name.next) c.in_ok-name.ensures.2); goes_on = λ stack k x h. let h1 = at t.Name _ _ (left c.args.cursor) (left c.in_ok-name.next) (ThePrimary ∷ stack) k x c.requires refl c.in_ok-name.ensures.0 c.in_ok-name.ensures.1 c.in_ok-name.ensures.2 h in done-AfterName (left c.in_ok-name.next) _ _ x (λ e. c.in_default.not-Dot (c.terminal.ensures ∙ e)) h1 }

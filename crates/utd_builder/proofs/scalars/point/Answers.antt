use Rattle.std.proofs.Common.{◌∷◌, refl, sym, ◌∙◌, arith}
use Rattle.utd_syntax.specs.declared.terminal.Terminal.TheVariants as t
use Rattle.utd_syntax.specs.Table.{ThePoint}
use Rattle.utd_builder.specs.Building.{left}
use Rattle.utd_builder.proofs.Steps.{at, no-more}
use Rattle.utd_builder.proofs.ScalarRows.{step-ThePoint}
use Rattle.utd_builder.proofs.scalars.point.Goals as goal

pub returns-in-Integer : goal.returns-in-Integer
returns-in-Integer c = record { shorter = omega (arith, no-more (left c.args.cursor) (left c.skip.result) c.skip.ensures); goes_on = λ stack k x h. at t.Integer _ _ (left c.args.cursor) (left c.skip.result) (ThePoint ∷ stack) k x (sym c.terminal.ensures ∙ c.in-Integer.is) refl c.place.ensures refl c.skip.ensures h }

pub returns-in-Date : goal.returns-in-Date
returns-in-Date c = record { shorter = omega (arith, no-more (left c.args.cursor) (left c.skip-in-Date.result) c.skip-in-Date.ensures); goes_on = λ stack k x h. at t.Date _ _ (left c.args.cursor) (left c.skip-in-Date.result) (ThePoint ∷ stack) k x (sym c.terminal.ensures ∙ c.in-Date.is) refl c.place-in-Date.ensures refl c.skip-in-Date.ensures h }

pub returns-in-Moment : goal.returns-in-Moment
returns-in-Moment c = record { shorter = omega (arith, no-more (left c.args.cursor) (left c.skip-in-Moment.result) c.skip-in-Moment.ensures); goes_on = λ stack k x h. at t.Moment _ _ (left c.args.cursor) (left c.skip-in-Moment.result) (ThePoint ∷ stack) k x (sym c.terminal.ensures ∙ c.in-Moment.is) refl c.place-in-Moment.ensures refl c.skip-in-Moment.ensures h }

pub returns-in_ok-name-in_default : goal.returns-in_ok-name-in_default
returns-in_ok-name-in_default c = record { shorter = omega (arith, no-more (left c.args.cursor) (left c.in_ok-name-in_default.next) c.in_ok-name-in_default.ensures.2); goes_on = λ stack k x h. step-ThePoint _ _ (left c.args.cursor) (left c.in_ok-name-in_default.next) _ k x (λ e. c.in_default.not-Integer (c.terminal.ensures ∙ e)) (λ e. c.in_default.not-Date (c.terminal.ensures ∙ e)) (λ e. c.in_default.not-Moment (c.terminal.ensures ∙ e)) c.in_ok-name-in_default.ensures.0 c.in_ok-name-in_default.ensures.1 c.in_ok-name-in_default.ensures.2 h }

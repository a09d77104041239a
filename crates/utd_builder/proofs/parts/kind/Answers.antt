use Rattle.std.proofs.Common.{◌∷◌, refl, sym, ◌∙◌, arith}
use Rattle.utd_syntax.specs.declared.terminal.Terminal.TheVariants as t
use Rattle.utd_syntax.specs.Table.{TheKind}
use Rattle.utd_builder.specs.Building.{left}
use Rattle.utd_builder.proofs.Steps.{at, no-more, just}
use Rattle.utd_builder.proofs.PartRows.{kind-to-point}
use Rattle.utd_builder.proofs.ScalarRows.{step-InPoint}
use Rattle.utd_builder.proofs.parts.kind.Goals as goal

pub returns-in-Boolean : goal.returns-in-Boolean
returns-in-Boolean c = record { shorter = omega (arith, no-more (left c.args.cursor) (left c.skip.result) c.skip.ensures); goes_on = λ stack k x h. at t.Boolean _ _ (left c.args.cursor) (left c.skip.result) (TheKind ∷ stack) k x (sym c.terminal.ensures ∙ c.in-Boolean.is) refl c.place.ensures refl c.skip.ensures h }

pub returns-in-Char : goal.returns-in-Char
returns-in-Char c = record { shorter = omega (arith, no-more (left c.args.cursor) (left c.skip-in-Char.result) c.skip-in-Char.ensures); goes_on = λ stack k x h. at t.Char _ _ (left c.args.cursor) (left c.skip-in-Char.result) (TheKind ∷ stack) k x (sym c.terminal.ensures ∙ c.in-Char.is) refl c.place-in-Char.ensures refl c.skip-in-Char.ensures h }

pub returns-in_ok-name-in-Interval : goal.returns-in_ok-name-in-Interval
returns-in_ok-name-in-Interval c = record { shorter = omega (arith, no-more (left c.args.cursor) (left c.skip-in-Interval.result) c.skip-in-Interval.ensures, no-more (left c.skip-in-Interval.result) (left c.skip-in-Interval-2.result) c.skip-in-Interval-2.ensures, c.in_ok-name-in-Interval.ensures.shorter, no-more (left c.in_ok-name-in-Interval.next) (left c.skip-in-Interval-3.result) c.skip-in-Interval-3.ensures); goes_on = λ stack k x h. let h1 = at t.Interval _ _ (left c.args.cursor) (left c.skip-in-Interval.result) (TheKind ∷ stack) k x (sym c.terminal.ensures ∙ c.in-Interval.is) refl c.place-place.ensures refl c.skip-in-Interval.ensures h in let h2 = step-InPoint _ _ (left c.skip-in-Interval.result) (left c.skip-in-Interval-2.result) _ _ x refl refl c.skip-in-Interval-2.ensures h1 in let h3 = c.in_ok-name-in-Interval.ensures.goes_on _ _ x h2 in just t.Close (left c.in_ok-name-in-Interval.next) (left c.skip-in-Interval-3.result) _ _ x c.skip-in-Interval-3.ensures h3 }

pub returns-in_ok-only-in_default : goal.returns-in_ok-only-in_default
returns-in_ok-only-in_default c = record { shorter = omega (arith, c.in_ok-only-in_default.ensures.shorter); goes_on = λ stack k x h. let h1 = kind-to-point (left c.args.cursor) _ k x (λ e. c.in_default.not-Boolean (c.terminal.ensures ∙ e)) (λ e. c.in_default.not-Char (c.terminal.ensures ∙ e)) (λ e. c.in_default.not-Interval (c.terminal.ensures ∙ e)) h in c.in_ok-only-in_default.ensures.goes_on _ _ x h1 }

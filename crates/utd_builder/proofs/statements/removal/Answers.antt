use Rattle.std.proofs.Common.{◌∷◌, refl, sym, ◌∙◌, arith}
use Rattle.utd_syntax.specs.declared.terminal.Terminal.TheVariants as t
use Rattle.utd_syntax.specs.Table.{TheStatement, AfterDrop}
use Rattle.utd_builder.specs.Building.{left}
use Rattle.utd_builder.proofs.Steps.{at, no-more, just}
use Rattle.utd_builder.proofs.ScalarRows.{step-TheName}
use Rattle.utd_builder.proofs.StatementRows.{step-AfterDrop}
use Rattle.utd_builder.proofs.statements.removal.Goals as goal

pub returns-in_ok-name-in-Constraint : goal.returns-in_ok-name-in-Constraint
returns-in_ok-name-in-Constraint c = record { shorter = omega (arith, no-more (left c.args.cursor) (left c.skip-behind.result) c.skip-behind.ensures, no-more (left c.skip-behind.result) (left c.skip.result) c.skip.ensures, no-more (left c.skip.result) (left c.in_ok-name-in-Constraint.next) c.in_ok-name-in-Constraint.ensures.2, no-more (left c.in_ok-name-in-Constraint.next) (left c.skip-in-Constraint.result) c.skip-in-Constraint.ensures); goes_on = λ stack k x h. let h1 = at t.Drop _ _ (left c.args.cursor) (left c.skip-behind.result) (TheStatement ∷ stack) k x c.requires refl c.place-place.ensures refl c.skip-behind.ensures h in let h2 = at t.Constraint _ _ (left c.skip-behind.result) (left c.skip.result) (AfterDrop ∷ stack) _ x (sym c.terminal.ensures ∙ c.in-Constraint.is) refl c.place-of_rule.ensures refl c.skip.ensures h1 in let h3 = step-TheName _ _ (left c.skip.result) (left c.in_ok-name-in-Constraint.next) _ _ x c.in_ok-name-in-Constraint.ensures.0 c.in_ok-name-in-Constraint.ensures.1 c.in_ok-name-in-Constraint.ensures.2 h2 in just t.Semicolon (left c.in_ok-name-in-Constraint.next) (left c.skip-in-Constraint.result) _ _ x c.skip-in-Constraint.ensures h3 }

pub returns-in_ok-name-in_default : goal.returns-in_ok-name-in_default
returns-in_ok-name-in_default c = record { shorter = omega (arith, no-more (left c.args.cursor) (left c.skip-behind.result) c.skip-behind.ensures, no-more (left c.skip-behind.result) (left c.skip-in_default.result) c.skip-in_default.ensures, no-more (left c.skip-in_default.result) (left c.in_ok-name-in_default.next) c.in_ok-name-in_default.ensures.2, no-more (left c.in_ok-name-in_default.next) (left c.skip-in_default-2.result) c.skip-in_default-2.ensures); goes_on = λ stack k x h. let h1 = at t.Drop _ _ (left c.args.cursor) (left c.skip-behind.result) (TheStatement ∷ stack) k x c.requires refl c.place-place.ensures refl c.skip-behind.ensures h in let h2 = step-AfterDrop _ _ (left c.skip-behind.result) (left c.skip-in_default.result) _ _ x (λ e. c.in_default.not-Constraint (c.terminal.ensures ∙ e)) refl refl c.skip-in_default.ensures h1 in let h3 = step-TheName _ _ (left c.skip-in_default.result) (left c.in_ok-name-in_default.next) _ _ x c.in_ok-name-in_default.ensures.0 c.in_ok-name-in_default.ensures.1 c.in_ok-name-in_default.ensures.2 h2 in just t.Semicolon (left c.in_ok-name-in_default.next) (left c.skip-in_default-2.result) _ _ x c.skip-in_default-2.ensures h3 }

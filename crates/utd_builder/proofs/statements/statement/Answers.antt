use Rattle.std.proofs.Common.{◌∷◌, refl, sym, ◌∙◌, arith}
use Rattle.utd_syntax.specs.declared.terminal.Terminal.TheVariants as t
use Rattle.utd_syntax.specs.Table.{TheStatement}
use Rattle.utd_builder.specs.Building.{left}
use Rattle.utd_builder.proofs.Steps.{at, no-more, just}
use Rattle.utd_builder.proofs.StatementRows.{statement-to-assign}
use Rattle.utd_builder.proofs.statements.statement.Goals as goal

pub returns-in-Semicolon : goal.returns-in-Semicolon
returns-in-Semicolon c = record { shorter = omega (arith, no-more (left c.args.cursor) (left c.skip.result) c.skip.ensures); goes_on = λ stack k x h. at t.Semicolon _ _ (left c.args.cursor) (left c.skip.result) (TheStatement ∷ stack) k x (sym c.terminal.ensures ∙ c.in-Semicolon.is) refl refl refl c.skip.ensures h }

pub ordinal-requires : goal.ordinal-requires
ordinal-requires c = (sym c.terminal.ensures ∙ c.in-TypeWord.is)

pub returns-in-TypeWord : goal.returns-in-TypeWord
returns-in-TypeWord c = c.ordinal.ensures

pub variable-requires : goal.variable-requires
variable-requires c = (sym c.terminal.ensures ∙ c.in-Var.is)

pub returns-in-Var : goal.returns-in-Var
returns-in-Var c = c.variable.ensures

pub rule-requires : goal.rule-requires
rule-requires c = (sym c.terminal.ensures ∙ c.in-Constraint.is)

pub returns-in-Constraint : goal.returns-in-Constraint
returns-in-Constraint c = c.rule.ensures

pub removal-requires : goal.removal-requires
removal-requires c = (sym c.terminal.ensures ∙ c.in-Drop.is)

pub returns-in-Drop : goal.returns-in-Drop
returns-in-Drop c = c.removal.ensures

pub print-requires : goal.print-requires
print-requires c = (sym c.terminal.ensures ∙ c.in-Print.is)

pub returns-in-Print : goal.returns-in-Print
returns-in-Print c = c.print.ensures

pub ask-requires : goal.ask-requires
ask-requires c = (sym c.terminal.ensures ∙ c.in-Ask.is)

pub returns-in-Ask : goal.returns-in-Ask
returns-in-Ask c = c.ask.ensures

pub named-requires : goal.named-requires
named-requires c = (sym c.terminal.ensures ∙ c.in-Name.is)

pub returns-in-Name : goal.returns-in-Name
returns-in-Name c = c.named.ensures

pub history-requires : goal.history-requires
history-requires c = (sym c.terminal.ensures ∙ c.in-History.is)

pub returns-in_ok-only-in-History : goal.returns-in_ok-only-in-History
returns-in_ok-only-in-History c = record { shorter = c.in_ok-only-in-History.ensures.shorter; goes_on = c.in_ok-only-in-History.ensures.goes_on }

pub returns-in_ok-only-in_default : goal.returns-in_ok-only-in_default
returns-in_ok-only-in_default c = record { shorter = omega (arith, c.in_ok-only-in_default.ensures.shorter, no-more (left c.in_ok-only-in_default.next) (left c.skip-in_default.result) c.skip-in_default.ensures); goes_on = λ stack k x h. let h1 = statement-to-assign (left c.args.cursor) _ k x (λ e. c.in_default.not-Semicolon (c.terminal.ensures ∙ e)) (λ e. c.in_default.not-TypeWord (c.terminal.ensures ∙ e)) (λ e. c.in_default.not-Var (c.terminal.ensures ∙ e)) (λ e. c.in_default.not-History (c.terminal.ensures ∙ e)) (λ e. c.in_default.not-Constraint (c.terminal.ensures ∙ e)) (λ e. c.in_default.not-Drop (c.terminal.ensures ∙ e)) (λ e. c.in_default.not-Print (c.terminal.ensures ∙ e)) (λ e. c.in_default.not-Ask (c.terminal.ensures ∙ e)) (λ e. c.in_default.not-Name (c.terminal.ensures ∙ e)) h in let h2 = c.in_ok-only-in_default.ensures.goes_on _ _ x h1 in just t.Semicolon (left c.in_ok-only-in_default.next) (left c.skip-in_default.result) _ _ x c.skip-in_default.ensures h2 }

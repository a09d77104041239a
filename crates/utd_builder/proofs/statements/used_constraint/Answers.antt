use Rattle.std.proofs.Common.{sym, ◌∙◌, subst, arith}
use Rattle.utd_builder.specs.Building.{left}
use Rattle.utd_builder.proofs.StatementRows.{used_constraint-to-key}
use Rattle.utd_syntax.proofs.FormEnds.{Starts_foreign}
use Rattle.utd_syntax.proofs.FirstTokens.{used_constraint-as-foreign}
use Rattle.utd_builder.proofs.statements.used_constraint.Goals as goal

pub returns-in_ok-only-in-Foreign : goal.returns-in_ok-only-in-Foreign
returns-in_ok-only-in-Foreign c = record { shorter = omega (arith, c.in_ok-only-in-Foreign.ensures.shorter); goes_on = λ stack k x h. let h1 = (sym (used_constraint-as-foreign (left c.args.cursor) stack k (subst Starts_foreign (sym (sym c.terminal.ensures ∙ c.in-Foreign.is)) tt)) ∙ h) in c.in_ok-only-in-Foreign.ensures.goes_on _ _ x h1 }

pub returns-in_ok-only-in_default : goal.returns-in_ok-only-in_default
returns-in_ok-only-in_default c = record { shorter = omega (arith, c.in_ok-only-in_default.ensures.shorter); goes_on = λ stack k x h. let h1 = used_constraint-to-key (left c.args.cursor) _ k x (λ e. c.in_default.not-Foreign (c.terminal.ensures ∙ e)) h in c.in_ok-only-in_default.ensures.goes_on _ _ x h1 }

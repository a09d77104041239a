use Rattle.std.proofs.Common.{◌∷◌, refl, sym, ◌∙◌, arith}
use Rattle.utd_syntax.specs.declared.terminal.Terminal.TheVariants as t
use Rattle.utd_syntax.specs.Table.{TheVarForm}
use Rattle.utd_builder.specs.Building.{left}
use Rattle.utd_builder.proofs.Steps.{at, no-more, just}
use Rattle.utd_builder.proofs.StatementRows.{kept-begins, step-InKept, step-InRel, step-TheVarForm}
use Rattle.utd_builder.proofs.statements.var_form.Goals as goal

pub returns-in_ok-inner-in-Virtual : goal.returns-in_ok-inner-in-Virtual
returns-in_ok-inner-in-Virtual c = record { shorter = omega (arith, no-more (left c.args.cursor) (left c.skip-behind.result) c.skip-behind.ensures, no-more (left c.skip-behind.result) (left c.skip.result) c.skip.ensures, c.in_ok-inner-in-Virtual.ensures.shorter, no-more (left c.in_ok-inner-in-Virtual.next) (left c.skip-in-Virtual.result) c.skip-in-Virtual.ensures); goes_on = λ stack k x h. let h1 = at t.Virtual _ _ (left c.args.cursor) (left c.skip-behind.result) (TheVarForm ∷ stack) k x (sym c.terminal.ensures ∙ c.in-Virtual.is) refl c.place-place.ensures refl c.skip-behind.ensures h in let h2 = step-InRel _ _ (left c.skip-behind.result) (left c.skip.result) _ _ x refl refl c.skip.ensures h1 in let h3 = c.in_ok-inner-in-Virtual.ensures.goes_on _ _ x h2 in just t.Close (left c.in_ok-inner-in-Virtual.next) (left c.skip-in-Virtual.result) _ _ x c.skip-in-Virtual.ensures h3 }

pub returns-in_ok-only-in-Name : goal.returns-in_ok-only-in-Name
returns-in_ok-only-in-Name c = record { shorter = omega (arith, no-more (left c.args.cursor) (left c.skip-behind.result) c.skip-behind.ensures, no-more (left c.skip-behind.result) (left c.skip-in-Name.result) c.skip-in-Name.ensures, c.in_ok-only-in-Name.ensures.shorter, no-more (left c.in_ok-only-in-Name.next) (left c.skip-in-Name-2.result) c.skip-in-Name-2.ensures); goes_on = λ stack k x h. let h1 = kept-begins _ (left c.args.cursor) (left c.skip-behind.result) _ k x (sym c.terminal.ensures ∙ c.in-Name.is) c.place-place.ensures c.skip-behind.ensures h in let h2 = step-InKept _ _ (left c.skip-behind.result) (left c.skip-in-Name.result) _ _ x refl refl c.skip-in-Name.ensures h1 in let h3 = c.in_ok-only-in-Name.ensures.goes_on _ _ x h2 in just t.Close (left c.in_ok-only-in-Name.next) (left c.skip-in-Name-2.result) _ _ x c.skip-in-Name-2.ensures h3 }

pub returns-in_ok-rules-in_default : goal.returns-in_ok-rules-in_default
returns-in_ok-rules-in_default c = record { shorter = omega (arith, no-more (left c.args.cursor) (left c.skip-behind.result) c.skip-behind.ensures, c.in_ok-head-in_default.ensures.shorter, c.in_ok-rules-in_default.ensures.shorter); goes_on = λ stack k x h. let h1 = step-TheVarForm _ _ (left c.args.cursor) (left c.skip-behind.result) _ k x (λ e. c.in_default.not-Virtual (c.terminal.ensures ∙ e)) (λ e. c.in_default.not-Name (c.terminal.ensures ∙ e)) c.place-place.ensures refl c.skip-behind.ensures h in let h2 = c.in_ok-head-in_default.ensures.goes_on _ _ x h1 in c.in_ok-rules-in_default.ensures.goes_on _ _ x h2 }

use Rattle.std.proofs.Common.{◌∷◌, refl, sym, ◌∙◌, arith}
use Rattle.utd_syntax.specs.declared.terminal.Terminal.TheVariants as t
use Rattle.utd_syntax.specs.Table.{TheKept}
use Rattle.utd_builder.specs.Building.{left}
use Rattle.utd_builder.proofs.Steps.{at, no-more, just}
use Rattle.utd_builder.proofs.ScalarRows.{step-TheName}
use Rattle.utd_builder.proofs.StatementRows.{step-TheKept}
use Rattle.utd_builder.proofs.statements.kept.Goals as goal

pub returns-in_ok-tree-in-Using : goal.returns-in_ok-tree-in-Using
returns-in_ok-tree-in-Using c = record { shorter = omega (arith, no-more (left c.args.cursor) (left c.skip-behind.result) c.skip-behind.ensures, c.in_ok-names-in-Using.ensures.shorter, no-more (left c.in_ok-names-in-Using.next) (left c.skip.result) c.skip.ensures, no-more (left c.skip.result) (left c.in_ok-first-in-Using.rest) c.in_ok-first-in-Using.ensures.2, c.in_ok-tree-in-Using.ensures.shorter); goes_on = λ stack k x h. let h1 = at t.Using _ _ (left c.args.cursor) (left c.skip-behind.result) (TheKept ∷ stack) k x (sym c.terminal.ensures ∙ c.in-Using.is) refl c.place-place.ensures refl c.skip-behind.ensures h in let h2 = c.in_ok-names-in-Using.ensures.goes_on _ _ x h1 in let h3 = just t.Colon (left c.in_ok-names-in-Using.next) (left c.skip.result) _ _ x c.skip.ensures h2 in let h4 = step-TheName _ _ (left c.skip.result) (left c.in_ok-first-in-Using.rest) _ _ x c.in_ok-first-in-Using.ensures.0 c.in_ok-first-in-Using.ensures.1 c.in_ok-first-in-Using.ensures.2 h3 in c.in_ok-tree-in-Using.ensures.goes_on _ (λ w. k (w.0, w.1)) x h4 }

pub returns-in_ok-names-in_default : goal.returns-in_ok-names-in_default
returns-in_ok-names-in_default c = record { shorter = omega (arith, no-more (left c.args.cursor) (left c.skip-behind.result) c.skip-behind.ensures, no-more (left c.skip-behind.result) (left c.in_ok-name-in_default.next) c.in_ok-name-in_default.ensures.2, no-more (left c.in_ok-name-in_default.next) (left c.skip-in_default.result) c.skip-in_default.ensures, c.in_ok-names-in_default.ensures.shorter); goes_on = λ stack k x h. let h1 = step-TheKept _ _ (left c.args.cursor) (left c.skip-behind.result) _ k x (λ e. c.in_default.not-Using (c.terminal.ensures ∙ e)) c.place-place.ensures refl c.skip-behind.ensures h in let h2 = step-TheName _ _ (left c.skip-behind.result) (left c.in_ok-name-in_default.next) _ _ x c.in_ok-name-in_default.ensures.0 c.in_ok-name-in_default.ensures.1 c.in_ok-name-in_default.ensures.2 h1 in let h3 = just t.On (left c.in_ok-name-in_default.next) (left c.skip-in_default.result) _ _ x c.skip-in_default.ensures h2 in c.in_ok-names-in_default.ensures.goes_on _ _ x h3 }
